-- What a guard that is asked of each item in turn, by `try_for_each`, answers. Assumes nothing.
use Rattle.std.proofs.Common.{◌≡◌, List, [], ◌∷◌, length, Some, None, Ok, Err, Option, Result, Bor, Iter, Break, sym, refl, ap, ◌∙◌, subst, arith}
use Rattle.std.specs.Fn.{Called}
use Rattle.std.specs.Iterator.{Yields, TryCallsOnEach}
use Rattle.std.specs.Option.{MatchOption}
use Rattle.std.specs.Result.{result_from_control_flow, IsErr, IsErrAnd}
use Rattle.std.specs.List.{FoldsTo}
use Rattle.std.proofs.lemmas.Fn.{fronts}
use Rattle.std.proofs.lemmas.Result.{err_from_is_err_and}
use denote.Param.Members.{Mut}
use Rattle.book.specs.declared.refusal.Refusal.{Refusal}
use Rattle.book.specs.Guards.{and_then, every}

-- the closure f stays as it is, and answers what `asked` says
module _ {A F : Type 0} (g : Mut F (Bor A × Unit {0}) (Result Unit Refusal)) (f : F) (asked : A → Result Unit Refusal) (answers : (x : Bor A) (v : Result Unit Refusal) (q : F) → Called g f (x, tt) v q → (q ≡ f) × (v ≡ asked x.now)) where
  -- a call after which the next item is asked
  abbrev Goes : F → Bor A → F → Type 0
  Goes p x q = (v : Result Unit Refusal) × Called g p (x, tt) v q × (v ≡ Ok tt)

  -- a call that refuses
  abbrev Ends : Result Unit Refusal → F → Bor A → Type 0
  Ends r p x = (v : Result Unit Refusal) × (h : F) × (e : Refusal) × Called g p (x, tt) v h × (v ≡ Err e) × (r ≡ Err e)

  all_asked : (xs : List A) → length xs ≡ 0 → Ok tt ≡ every asked xs
  all_asked [] l = refl
  all_asked (x ∷ xs) l = absurd (omega arith)

  asked_each : (xs : List (Bor A)) (o : Option (Bor A)) (s t u : Iter A) (p j : F) (r : Result Unit Refusal) → p ≡ f → Yields fronts s xs t → fronts t o u → FoldsTo Goes p xs j → MatchOption o (r ≡ Ok tt) (Ends r j) → r ≡ every asked s.rest.now
  asked_each [] None s t u p j r i y n c h = h ∙ all_asked t.rest.now n.0 ∙ ap (λ (w : Iter A). every asked w.rest.now) (sym y)
  asked_each [] (Some x) s t u p j r i y n c h =
      let said = answers x h.0 h.1 (subst (λ w. Called g w (x, tt) h.0 h.1) (sym c ∙ i) h.3) in
      h.5 ∙ ap (λ w. and_then w (every asked u.rest.now)) (sym h.4 ∙ said.1) ∙ ap (every asked) (sym n ∙ ap (λ (w : Iter A). w.rest.now) (sym y))
  asked_each (x ∷ xs) o s t u p j r i y n c h =
      let said = answers x c.1.0 c.0 (subst (λ w. Called g w (x, tt) c.1.0 c.0) i c.1.1) in
      asked_each xs o y.0 t u c.0 j r said.0 y.2 n c.2 h ∙ ap (λ w. and_then w (every asked y.0.rest.now)) (sym c.1.2 ∙ said.1) ∙ ap (every asked) (sym y.1)

  pub every_asked : {s u : Iter A} {xs : List A} {r : Result Unit Refusal} → s.rest.now ≡ xs → TryCallsOnEach fronts g (λ v w. v ≡ result_from_control_flow w) (λ e z. IsErr z × IsErrAnd z (λ y. y ≡ e.0)) s f r u → r ≡ every asked xs
  every_asked {s} {u} {xs} {r} i d = asked_each d.0 d.1 s d.3.0 u f d.2 r refl d.3.1 d.3.2 d.4 (ended d.1 d.5) ∙ ap (every asked) i
    where
      ended : (o : Option (Bor A)) → MatchOption o (r ≡ Ok tt) (λ x. (v : Result Unit Refusal) × (h : F) × (e : _) × Called g d.2 (x, tt) v h × (v ≡ result_from_control_flow (Break e)) × (IsErr r × IsErrAnd r (λ y. y ≡ e.0))) → MatchOption o (r ≡ Ok tt) (Ends r d.2)
      ended None h = h
      ended (Some x) h = let z = err_from_is_err_and r h.5.1 in (h.0, h.1, h.2.0, h.3, h.4, z.1 ∙ ap Err z.2)

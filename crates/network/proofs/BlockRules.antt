-- The tests of the block rules are right. Assumes nothing.
use Rattle.std.proofs.Common.{◌≡◌, ℕ, zero, suc, ◌+◌, ◌<◌, Bool, true, false, not, ◌&&◌, eqb, ◌⊎◌, List, [], ◌∷◌, length, is_some, Some, None, Decides, Option, sym, refl, ap, ◌∙◌, subst, inl, inr, add-zero, zero-add, arith}
use Rattle.std.specs.Option.{option_map}
use Rattle.std.proofs.lemmas.Option.{slice_get_within}
use Rattle.std.specs.List.{slice_get, list_all}
use Rattle.std.proofs.lemmas.Bool.{eqb-true, eqb-false, eq-eqb, ne_eqb, and_parts, and_from, or_parts, or_from, not-true, not_from_false, cases_Bool, cases_order, cond-true, cond-false}
use Rattle.network.specs.declared.track.Kind.{Kind}
use Rattle.network.specs.declared.track.Kind.TheVariants.{Plain as PlainKind, Point as PointKind, Crossing as CrossingKind}
use Rattle.network.specs.declared.track.Joint.{Joint}
use Rattle.network.specs.declared.track.Joint.TheVariants.{Outer, Joined}
use Rattle.network.specs.declared.track.Block.{Block}
use Rattle.network.specs.declared.track.Block.TheVariants.{Plain, Point, Crossing}
use Rattle.network.specs.declared.rules.BlockRule.{BlockRule}
use Rattle.network.specs.declared.rules.BlockRule.TheVariants.{JointsExist, OuterEnds, JointsMutual}
use Rattle.network.specs.Track.{kind_of, ends_of}
use Rattle.network.specs.Joints.{joint_in, joint_of, joint_exists, all_exist, is_outer, outer_ends_fit, towards_from, towards, is_joined, leaves_by, mutual_at, each_mutual, all_mutual}
use Rattle.network.specs.Judge.{block_meets, first_break, block_breaks}
use Rattle.network.specs.Rules.{BlockMeets}

pub clash : {A : Type 0} {o : Option A} {x : A} → o ≡ None → o ≡ Some x → ⊥
clash p q = cc

pub same_some : {A : Type 0} {o : Option A} {x y : A} → o ≡ Some x → o ≡ Some y → x ≡ y
same_some p q = cc

pub is_and_not : {b : Bool} → b ≡ true → b ≡ false → ⊥
is_and_not p q = cc

pub outer_joined : {o : Option Joint} {c f : ℕ} → o ≡ Some Outer → o ≡ Some (Joined c f) → ⊥
outer_joined p q = cc

some_from_test : {A : Type 0} (o : Option A) → is_some o ≡ true → (x : A) × (o ≡ Some x)
some_from_test None h = absurd (is_and_not h refl)
some_from_test (Some x) h = (x, refl)

-- a test f of a list, counted from n, that asks p of each element
module _ {X : Type 0} (p : ℕ → X → Bool) (f : ℕ → List X → Bool) (none : (n : ℕ) → f n [] ≡ true) (more : (n : ℕ) (x : X) (xs : List X) → f n (x ∷ xs) ≡ (p n x && f (suc n) xs)) where
  each_true : (xs : List X) (n : ℕ) → f n xs ≡ true → (i : ℕ) (x : X) → slice_get xs i ≡ Some x → p (n + i) x ≡ true
  each_true [] n h i x e = absurd (clash refl e)
  each_true (y ∷ ys) n h zero x e = let same : y ≡ x = cc in rw (add-zero, ← same) (and_parts _ _ (sym (more n y ys) ∙ h)).0
  each_true (y ∷ ys) n h (suc i) x e = ap (λ m. p m x) (omega arith) ∙ each_true ys (suc n) (and_parts _ _ (sym (more n y ys) ∙ h)).1 i x e

  true_each : (xs : List X) (n : ℕ) → ((i : ℕ) (x : X) → slice_get xs i ≡ Some x → p (n + i) x ≡ true) → f n xs ≡ true
  true_each [] n h = none n
  true_each (y ∷ ys) n h = more n y ys ∙ and_from _ _ (rw add-zero at (h 0 y refl)) (true_each ys (suc n) (λ i x e. ap (λ m. p m x) (omega arith) ∙ h (suc i) x e))

-- the first joint that leads to c, where one does
pub record Towards (n : ℕ) (js : List Joint) (c : ℕ) : Type 0 where
  pub at : ℕ
  pub into : ℕ
  pub is : slice_get js at ≡ Some (Joined c into)
  pub found : towards_from n js c ≡ Some (n + at, into)

towards_later : (j : Joint) (js : List Joint) (n c : ℕ) → Towards (suc n) js c → towards_from n (j ∷ js) c ≡ towards_from (suc n) js c → Towards n (j ∷ js) c
towards_later j js n c t e = record { at = suc t.at; into = t.into; is = t.is; found = e ∙ t.found ∙ ap (λ m. Some (m, t.into)) (omega arith) }

towards_here : (d g : ℕ) (js : List Joint) (n c : ℕ) → eqb d c ≡ true → Towards n (Joined d g ∷ js) c
towards_here d g js n c h = record { at = 0; into = g; is = ap (λ x. Some (Joined x g)) (eqb-true d c h); found = cond-true _ _ _ h ∙ ap (λ m. Some (m, g)) (omega arith) }

pub towards_found : (js : List Joint) (n c k f : ℕ) → slice_get js k ≡ Some (Joined c f) → Towards n js c
towards_found [] n c k f e = absurd (clash refl e)
towards_found (Outer ∷ js) n c zero f e = absurd (outer_joined refl e)
towards_found (Outer ∷ js) n c (suc k) f e = towards_later Outer js n c (towards_found js (suc n) c k f e) refl
towards_found (Joined d g ∷ js) n c zero f e = let same : d ≡ c = cc in towards_here d g js n c (eq-eqb d c same)
towards_found (Joined d g ∷ js) n c (suc k) f e = elim (cases_Bool (eqb d c)) [
  | inl h ↦ towards_here d g js n c h
  | inr h ↦ towards_later (Joined d g) js n c (towards_found js (suc n) c k f e) (cond-false _ _ _ h)
]

-- what an answer of `towards-from` says
pub towards_is : (js : List Joint) (n c : ℕ) (o : ℕ × ℕ) → towards_from n js c ≡ Some o → (m : ℕ) × (o.0 ≡ n + m) × (slice_get js m ≡ Some (Joined c o.1))
towards_is [] n c o e = absurd (clash refl e)
towards_is (Outer ∷ js) n c o e = let t = towards_is js (suc n) c o e in (suc t.0, t.1 ∙ omega arith, t.2)
towards_is (Joined d g ∷ js) n c o e = elim (cases_Bool (eqb d c)) [
  | inl h ↦ let same : (n, g) ≡ o = same_some (cond-true _ _ _ h) e in (0, sym (ap (λ (q : ℕ × ℕ). q.0) same) ∙ omega arith, ap (λ x. Some (Joined x g)) (eqb-true d c h) ∙ ap (λ (q : ℕ × ℕ). Some (Joined c q.1)) same)
  | inr h ↦ let t = towards_is js (suc n) c o (sym (cond-false _ _ _ h) ∙ e) in (suc t.0, t.1 ∙ omega arith, t.2)
]

joined_true : (o : Option Joint) (b e : ℕ) → is_joined o b e ≡ true → o ≡ Some (Joined b e)
joined_true None b e h = absurd (is_and_not h refl)
joined_true (Some Outer) b e h = absurd (is_and_not h refl)
joined_true (Some (Joined c f)) b e h =
    let p = and_parts (eqb c b) (eqb f e) h in
    let q = eqb-true c b p.0 in
    let r = eqb-true f e p.1 in
    cc

true_joined : (o : Option Joint) (b e : ℕ) → o ≡ Some (Joined b e) → is_joined o b e ≡ true
true_joined o b e h = ap (λ x. is_joined x b e) h ∙ and_from _ _ (eq-eqb b b refl) (eq-eqb e e refl)

leaves_both : (o : Option (ℕ × ℕ)) (e g : ℕ) → leaves_by o e ≡ true → leaves_by o g ≡ true → g ≡ e
leaves_both None e g h k = absurd (is_and_not h refl)
leaves_both (Some o) e g h k = sym (eqb-true o.0 g k) ∙ eqb-true o.0 e h

not_outer : (j : Joint) → is_outer j ≡ false → j ≡ Outer → ⊥
not_outer j p q = is_and_not (ap is_outer q) p

outer_not : (j : Joint) → (j ≡ Outer → ⊥) → is_outer j ≡ false
outer_not Outer h = absurd (h refl)
outer_not (Joined c f) h = refl

same_outer : {j : Joint} → Some j ≡ Some Outer → j ≡ Outer
same_outer e = cc

-- of the two ends of a plain block at most one is outer
plain_outer : (a b : Joint) → not (is_outer a && is_outer b) ≡ true → (e f : ℕ) → slice_get (a ∷ b ∷ []) e ≡ Some Outer → slice_get (a ∷ b ∷ []) f ≡ Some Outer → f ≡ e
plain_outer a b h = go
  where
    both : a ≡ Outer → b ≡ Outer → ⊥
    both p q = is_and_not (and_from _ _ (ap is_outer p) (ap is_outer q)) (not-true _ h)

    go : (e f : ℕ) → slice_get (a ∷ b ∷ []) e ≡ Some Outer → slice_get (a ∷ b ∷ []) f ≡ Some Outer → f ≡ e
    go zero zero p q = refl
    go zero (suc zero) p q = absurd (both (same_outer p) (same_outer q))
    go zero (suc (suc f)) p q = absurd (clash refl q)
    go (suc zero) zero p q = absurd (both (same_outer q) (same_outer p))
    go (suc zero) (suc zero) p q = refl
    go (suc zero) (suc (suc f)) p q = absurd (clash refl q)
    go (suc (suc e)) f p q = absurd (clash refl p)

-- the rule of outer ends, of the block itself
abbrev Outers : Block → Type 0
Outers x = (e : ℕ) → slice_get (ends_of x) e ≡ Some Outer → (kind_of x ≡ PlainKind) × ((f : ℕ) → slice_get (ends_of x) f ≡ Some Outer → f ≡ e)

outers_true : (x : Block) → outer_ends_fit x ≡ true → Outers x
outers_true (Plain a b) h e p = (refl, λ f q. plain_outer a b h e f p q)
outers_true (Point a b c) h e p = absurd (go e p)
  where
    parts : (is_outer a ≡ false) × (is_outer b ≡ false) × (is_outer c ≡ false)
    parts = let q = or_parts _ _ (not-true _ h) in let r = or_parts _ _ q.1 in (q.0, r.0, r.1)

    go : (e : ℕ) → slice_get (a ∷ b ∷ c ∷ []) e ≡ Some Outer → ⊥
    go zero p = not_outer a parts.0 (same_outer p)
    go (suc zero) p = not_outer b parts.1 (same_outer p)
    go (suc (suc zero)) p = not_outer c parts.2 (same_outer p)
    go (suc (suc (suc e))) p = clash refl p
outers_true (Crossing a b c d) h e p = absurd (go e p)
  where
    parts : (is_outer a ≡ false) × (is_outer b ≡ false) × (is_outer c ≡ false) × (is_outer d ≡ false)
    parts = let q = or_parts _ _ (not-true _ h) in let r = or_parts _ _ q.1 in let s = or_parts _ _ r.1 in (q.0, r.0, s.0, s.1)

    go : (e : ℕ) → slice_get (a ∷ b ∷ c ∷ d ∷ []) e ≡ Some Outer → ⊥
    go zero p = not_outer a parts.0 (same_outer p)
    go (suc zero) p = not_outer b parts.1 (same_outer p)
    go (suc (suc zero)) p = not_outer c parts.2 (same_outer p)
    go (suc (suc (suc zero))) p = not_outer d parts.3 (same_outer p)
    go (suc (suc (suc (suc e)))) p = clash refl p

pub kinds_apart : {k : Kind} → k ≡ PlainKind → (k ≡ PointKind) ⊎ (k ≡ CrossingKind) → ⊥
kinds_apart p (inl q) = cc
kinds_apart p (inr q) = cc

true_outers : (x : Block) → Outers x → outer_ends_fit x ≡ true
true_outers (Plain Outer Outer) h = absurd (let z : ◌≡◌ {A = ℕ} 1 0 = (h 0 refl).1 1 refl in omega arith)
true_outers (Plain Outer (Joined c f)) h = refl
true_outers (Plain (Joined d g) b) h = refl
true_outers (Point a b c) h = not_from_false _ (or_from _ _ (none a 0 (ap Some)) (or_from _ _ (none b 1 (ap Some)) (none c 2 (ap Some))))
  where
    none : (j : Joint) (e : ℕ) → (j ≡ Outer → slice_get (ends_of (Point a b c)) e ≡ Some Outer) → is_outer j ≡ false
    none j e p = outer_not j (λ q. kinds_apart (h e (p q)).0 (inl refl))
true_outers (Crossing a b c d) h = not_from_false _ (or_from _ _ (none a 0 (ap Some)) (or_from _ _ (none b 1 (ap Some)) (or_from _ _ (none c 2 (ap Some)) (none d 3 (ap Some)))))
  where
    none : (j : Joint) (e : ℕ) → (j ≡ Outer → slice_get (ends_of (Crossing a b c d)) e ≡ Some Outer) → is_outer j ≡ false
    none j e p = outer_not j (λ q. kinds_apart (h e (p q)).0 (inr refl))

true_exists : (bs : List Block) (j : Joint) → ((c f : ℕ) → j ≡ Joined c f → (k : Joint) × (joint_of bs c f ≡ Some k)) → joint_exists bs j ≡ true
true_exists bs Outer h = refl
true_exists bs (Joined c f) h = ap is_some (h c f refl).1

module _ (bs : List Block) (b : ℕ) (x : Block) (there : slice_get bs b ≡ Some x) where
  pub joint_here : (e : ℕ) → joint_of bs b e ≡ slice_get (ends_of x) e
  joint_here e = ap (λ o. joint_in o e) there

  joints_exist_true : all_exist bs x ≡ true → BlockMeets bs JointsExist b
  joints_exist_true h e c f p =
      some_from_test _ (each_true (λ n j. joint_exists bs j) (λ n js. list_all (joint_exists bs) js) (λ n. refl) (λ n j js. refl) (ends_of x) 0 h e (Joined c f) (sym (joint_here e) ∙ p))

  true_joints_exist : BlockMeets bs JointsExist b → all_exist bs x ≡ true
  true_joints_exist m =
      true_each (λ n j. joint_exists bs j) (λ n js. list_all (joint_exists bs) js) (λ n. refl) (λ n j js. refl) (ends_of x) 0 (λ e j p. true_exists bs j (λ c f q. m e c f (joint_here e ∙ p ∙ ap Some q)))

  outer_ends_true : outer_ends_fit x ≡ true → BlockMeets bs OuterEnds b
  outer_ends_true h e p =
      let o = outers_true x h e (sym (joint_here e) ∙ p) in
      (ap (option_map kind_of) there ∙ ap Some o.0, λ f q. o.1 f (sym (joint_here f) ∙ q))

  true_outer_ends : BlockMeets bs OuterEnds b → outer_ends_fit x ≡ true
  true_outer_ends m =
      true_outers x (λ e p. (same_some (ap (option_map kind_of) there) (m e (joint_here e ∙ p)).0, λ f q. (m e (joint_here e ∙ p)).1 f (joint_here f ∙ q)))

  mutual_true : all_mutual bs b x ≡ true → (e c f : ℕ) → joint_of bs b e ≡ Some (Joined c f) → mutual_at bs b x e (Joined c f) ≡ true
  mutual_true h e c f p =
      rw zero-add at (each_true (mutual_at bs b x) (each_mutual bs b x) (λ n. refl) (λ n j js. refl) (ends_of x) 0 h e (Joined c f) (sym (joint_here e) ∙ p))

  joints_mutual_true : all_mutual bs b x ≡ true → BlockMeets bs JointsMutual b
  joints_mutual_true h e c f p =
      let here = and_parts _ _ (mutual_true h e c f p) in
      let rest = and_parts _ _ here.1 in
      (joined_true _ b e here.0, eqb-false c b (not-true _ rest.0), λ g k q. leaves_both (towards x c) e g rest.1 (let there' = and_parts (is_joined (joint_of bs c k) b g) _ (mutual_true h g c k q) in (and_parts (not (eqb c b)) _ there'.1).1))

  -- two blocks share one joint at most, so that the first found is the one
  pub towards_only : BlockMeets bs JointsMutual b → (e c f : ℕ) → joint_of bs b e ≡ Some (Joined c f) → towards x c ≡ Some (e, f)
  towards_only m e c f p =
      let t = towards_found (ends_of x) 0 c e f (sym (joint_here e) ∙ p) in
      let same : t.at ≡ e = (m e c f p).2 t.at t.into (joint_here t.at ∙ t.is) in
      let q : Joined c t.into ≡ Joined c f = same_some (sym (ap (slice_get (ends_of x)) same) ∙ t.is) (sym (joint_here e) ∙ p) in
      let into : t.into ≡ f = cc in
      t.found ∙ ap (λ n. Some (n, t.into)) (zero-add t.at ∙ same) ∙ ap (λ n. Some (e, n)) into

  true_mutual : BlockMeets bs JointsMutual b → (e : ℕ) (j : Joint) → joint_of bs b e ≡ Some j → mutual_at bs b x e j ≡ true
  true_mutual m e Outer p = refl
  true_mutual m e (Joined c f) p =
      let h = m e c f p in
      and_from _ _ (true_joined _ b e h.0) (and_from _ _ (not_from_false _ (ne_eqb c b h.1)) (ap (λ o. leaves_by o e) (towards_only m e c f p) ∙ eq-eqb e e refl))

  true_joints_mutual : BlockMeets bs JointsMutual b → all_mutual bs b x ≡ true
  true_joints_mutual m =
      true_each (mutual_at bs b x) (each_mutual bs b x) (λ n. refl) (λ n j js. refl) (ends_of x) 0 (λ e j p. rw zero-add (true_mutual m e j (joint_here e ∙ p)))

-- the test of a block decides its rule
pub decides_block : (bs : List Block) (ρ : BlockRule) (b : ℕ) (x : Block) → slice_get bs b ≡ Some x → Decides (block_meets bs ρ b x) (BlockMeets bs ρ b)
decides_block bs JointsExist b x there = (joints_exist_true bs b x there, true_joints_exist bs b x there)
decides_block bs OuterEnds b x there = (outer_ends_true bs b x there, true_outer_ends bs b x there)
decides_block bs JointsMutual b x there = (joints_mutual_true bs b x there, true_joints_mutual bs b x there)

-- what the first of the blocks xs, numbered from n, that breaks a rule is, and that there is none
abbrev First : List Block → BlockRule → ℕ → List Block → Option ℕ → Type 0
First bs ρ n xs None = (i : ℕ) (x : Block) → slice_get xs i ≡ Some x → block_meets bs ρ (n + i) x ≡ true
First bs ρ n xs (Some b) = (i : ℕ) × (x : Block) × (b ≡ n + i) × (slice_get xs i ≡ Some x) × (block_meets bs ρ b x ≡ false) × ((k : ℕ) (y : Block) → k < i → slice_get xs k ≡ Some y → block_meets bs ρ (n + k) y ≡ true)

module _ (bs : List Block) (ρ : BlockRule) where
  first_more : (n : ℕ) (x : Block) (xs : List Block) (o : Option ℕ) → block_meets bs ρ n x ≡ true → First bs ρ (suc n) xs o → First bs ρ n (x ∷ xs) o
  first_more n x xs None h f = go
    where
      go : (i : ℕ) (y : Block) → slice_get (x ∷ xs) i ≡ Some y → block_meets bs ρ (n + i) y ≡ true
      go zero y e = let same : x ≡ y = cc in rw (add-zero, ← same) h
      go (suc i) y e = ap (λ m. block_meets bs ρ m y) (omega arith) ∙ f i y e
  first_more n x xs (Some b) h f = (suc f.0, f.1, f.2 ∙ omega arith, f.3, f.4, go)
    where
      go : (k : ℕ) (y : Block) → k < suc f.0 → slice_get (x ∷ xs) k ≡ Some y → block_meets bs ρ (n + k) y ≡ true
      go zero y l e = let same : x ≡ y = cc in rw (add-zero, ← same) h
      go (suc k) y l e = ap (λ m. block_meets bs ρ m y) (omega arith) ∙ f.5 k y (omega arith) e

  first_right : (n : ℕ) (xs : List Block) → First bs ρ n xs (first_break bs ρ n xs)
  first_right n [] = λ i x e. absurd (clash refl e)
  first_right n (x ∷ xs) = elim (cases_Bool (block_meets bs ρ n x)) [
    | inl h ↦ subst (First bs ρ n (x ∷ xs)) (sym (cond-true _ _ _ h)) (first_more n x xs (first_break bs ρ (suc n) xs) h (first_right (suc n) xs))
    | inr h ↦ subst (First bs ρ n (x ∷ xs)) (sym (cond-false _ _ _ h)) (0, x, sym (add-zero n), refl, h, λ k y l e. absurd (omega arith))
  ]

-- where a rule is broken first
abbrev pub Found : List Block → BlockRule → Option ℕ → Type 0
Found bs ρ None = (b : ℕ) → b < length bs → BlockMeets bs ρ b
Found bs ρ (Some b) = (b < length bs) × (BlockMeets bs ρ b → ⊥) × ((c : ℕ) → c < b → BlockMeets bs ρ c)

block_in : (bs : List Block) (b : ℕ) → b < length bs → (x : Block) × (slice_get bs b ≡ Some x)
block_in [] b l = absurd (omega arith)
block_in (x ∷ xs) zero l = (x, refl)
block_in (x ∷ xs) (suc b) l = block_in xs b (omega arith)

found_first : (bs : List Block) (ρ : BlockRule) (o : Option ℕ) → First bs ρ 0 bs o → Found bs ρ o
found_first bs ρ None f = λ b l. let x = block_in bs b l in (decides_block bs ρ b x.0 x.1).0 (rw zero-add at (f b x.0 x.1))
found_first bs ρ (Some b) f =
    let same : b ≡ f.0 = f.2 ∙ zero-add f.0 in
    let there : slice_get bs b ≡ Some f.1 = ap (slice_get bs) same ∙ f.3 in
    let l : b < length bs = slice_get_within bs b f.1 there in
    (l, λ m. is_and_not ((decides_block bs ρ b f.1 there).1 m) f.4, λ c k. let x = block_in bs c (omega arith) in (decides_block bs ρ c x.0 x.1).0 (rw (zero-add c) at (f.5 c x.0 (omega arith) x.1)))

pub found_right : (bs : List Block) (ρ : BlockRule) → Found bs ρ (block_breaks bs ρ)
found_right bs ρ = found_first bs ρ (block_breaks bs ρ) (first_right bs ρ 0 bs)

-- and one place alone is the first
pub found_only : (bs : List Block) (ρ : BlockRule) (o p : Option ℕ) → Found bs ρ o → Found bs ρ p → o ≡ p
found_only bs ρ None None f g = refl
found_only bs ρ None (Some c) f g = absurd (g.1 (f c g.0))
found_only bs ρ (Some b) None f g = absurd (f.1 (g b f.0))
found_only bs ρ (Some b) (Some c) f g = elim (cases_order b c) [ inl e ↦ ap Some e | inr l ↦ elim l [ inl k ↦ absurd (f.1 (g.2 b k)) | inr k ↦ absurd (g.1 (f.2 c k)) ] ]

pub breaks_only : (bs : List Block) (ρ : BlockRule) (o : Option ℕ) → Found bs ρ o → block_breaks bs ρ ≡ o
breaks_only bs ρ o f = found_only bs ρ (block_breaks bs ρ) o (found_right bs ρ) f

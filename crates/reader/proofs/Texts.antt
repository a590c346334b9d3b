-- Reading a text gives its right answer, and no other is right. Assumes nothing.
use Rattle.std.proofs.Common.{◌≡◌, ℕ, suc, ◌+◌, ◌<◌, ◌≤◌, ◌⊎◌, List, [], ◌∷◌, ◌++◌, length, Some, None, Ok, Err, Result, sym, refl, ap, ◌∙◌, subst, ap₂, inl, inr, ⊎_elim, add-zero, arith}
use Rattle.std.specs.List.{flat_map, AllByRecursion as All}
use Rattle.std.proofs.ByRecursion.{All-from_get_or}
use Rattle.std.proofs.lemmas.List.{append-nil, append_assoc, nil_from_length, length-append}
use Rattle.std.proofs.lemmas.Bool.{cases_lt, cases_eq, cond-true, cond-false, lt-ltb, le-ltb, eq-eqb, ne_eqb, or_left, or_right, or_from}
use Rattle.network.specs.declared.track.Block.{Block}
use Rattle.network.specs.declared.route.Step.{Step}
use Rattle.network.specs.declared.rules.Broken.{Broken}
use Rattle.network.specs.declared.rules.Broken.TheVariants.{Block as BrokenBlock, Route as BrokenRoute}
use Rattle.network.specs.Drawing.{Declared, empty}
use Rattle.network.specs.Judge.{Plan, judge}
use Rattle.network.specs.Rules.{JudgedRight}
use Rattle.network.proofs.Judging.{judge_right, judge_only}
use Rattle.network.proofs.Sheets.{lawful_apart}
use Rattle.reader.specs.declared.refusal.Refusal.{Refusal}
use Rattle.reader.specs.declared.refusal.Refusal.TheVariants.{TooLong, Form, Limit, Empty, Block as BlockRefused, Route as RouteRefused}
use Rattle.reader.specs.Words.{pieces}
use Rattle.reader.specs.Reads.{Declaration, block, route, line_says, declare, and_then, lines_declare, placed, judged, read}
use Rattle.reader.specs.Text.{block_text, route_text, text_of, ended, written, lines, no_block, BlockSized, RouteSized, Sized, Within, MayFollow, Over, Begins, WrongForm, OverLimit, Draws, Refused, RightAnswer, Apart, Answers}
use Rattle.reader.proofs.Numbers.{clash, seen}
use Rattle.reader.proofs.Pieces.{Lacks, together, some_pieces, pieces_together, pieces_lack, pieces_append, together_pieces}
use Rattle.reader.proofs.Lines.{line_says_text, text_says, text_lacks}
use Rattle.reader.proofs.Growth.{grown, written_grown, lines_grown, within_grown, Declares, grows, over, amiss, declares}

-- the first line of a text that begins with a declaration's
first_line : (x : Declaration) (after : List ℕ) → Sized x → pieces 10 (ended (text_of x) ++ after) ≡ text_of x ∷ pieces 10 after
first_line x after s = ap (pieces 10) (append_assoc (text_of x) (10 ∷ []) after) ∙ pieces_append 10 (text_of x) after (text_lacks x s)

-- a text has one first line
same_line : (l : List ℕ) (ls : List (List ℕ)) (rest : List ℕ) → rest ≡ together 10 (l ∷ ls) → All (Lacks 10) (l ∷ ls) → (x : Declaration) (after : List ℕ) → Sized x → rest ≡ ended (text_of x) ++ after → ◌≡◌ {A = List (List ℕ)} (l ∷ ls) (text_of x ∷ pieces 10 after)
same_line l ls rest e k x after s f = sym (together_pieces 10 l ls k.0 k.1) ∙ ap (pieces 10) (sym e ∙ f) ∙ first_line x after s

-- what a drawing that is read, or a refusal, says of the text
abbrev LinesRight : List ℕ → Result Declared Refusal → Type 0
LinesRight t (Ok d) = Within d × (t ≡ written d)
LinesRight t (Err e) = Refused t e

abbrev nothing : (t : List ℕ) → length t ≤ 8192 → Begins t 1
nothing t l = record {
  short = l;
  drawing = empty;
  within = record { few_blocks = omega arith; few_routes = omega arith; short = λ r h. absurd (omega arith); blocks = λ b h. absurd (omega arith); routes = λ r h. absurd (omega arith) };
  rest = t;
  text = refl;
  line = refl;
}

module _ (t : List ℕ) (n : ℕ) (b : Begins t n) where
  -- one line more
  abbrev goes_on : (x : Declaration) (after : List ℕ) → Sized x → MayFollow b.drawing x → (Over b.drawing x → ⊥) → b.rest ≡ ended (text_of x) ++ after → Begins t (suc n)
  goes_on x after s f o e = record {
    short = b.short;
    drawing = grown b.drawing x;
    within = within_grown b.drawing x b.within s o;
    rest = after;
    text = b.text ∙ ap (λ r. written b.drawing ++ r) e ∙ sym (append_assoc (written b.drawing) (ended (text_of x)) after) ∙ ap (λ r. r ++ after) (sym (written_grown b.drawing x f));
    line = omega (arith, lines_grown b.drawing x, b.line);
  }

  last_right : (l : List ℕ) → b.rest ≡ together 10 (l ∷ []) → Lacks 10 l → LinesRight t (lines_declare b.drawing n (l ∷ []))
  last_right l e k = elim (cases_eq (length l) 0) [
    | inl z ↦ subst (LinesRight t) (sym (cond-true _ _ _ (eq-eqb _ _ z))) (b.within, b.text ∙ ap (λ r. written b.drawing ++ r) (e ∙ append-nil l ∙ nil_from_length l z) ∙ append-nil _)
    | inr z ↦ subst (LinesRight t) (sym (cond-false _ _ _ (ne_eqb _ _ z))) (record { begins = b; there = some z; none = none })
  ]
    where
      some : (length l ≡ 0 → ⊥) → 0 < length b.rest
      some z = let f = ap length (e ∙ append-nil l) in omega arith

      none : (x : Declaration) (after : List ℕ) → Sized x → MayFollow b.drawing x → b.rest ≡ ended (text_of x) ++ after → ⊥
      none x after s f g =
          let p = some_pieces 10 after in
          let h = ap length (same_line l [] b.rest e (k, tt) x after s g ∙ ap (λ ps. text_of x ∷ ps) p.2) in
          omega arith

  module _ (l m : List ℕ) (ls : List (List ℕ)) (e : b.rest ≡ together 10 (l ∷ (m ∷ ls))) (k : All (Lacks 10) (l ∷ (m ∷ ls))) where
    there : 0 < length b.rest
    there = omega (arith, ap length e, length-append l (10 ∷ together 10 (m ∷ ls)))

    same_text : (x : Declaration) (after : List ℕ) → Sized x → b.rest ≡ ended (text_of x) ++ after → line_says n l ≡ Some x
    same_text x after s g = let h = same_line l (m ∷ ls) b.rest e k x after s g in let i : l ≡ text_of x = cc in ap (line_says n) i ∙ text_says n x s

    line_right : ((c : Begins t (suc n)) → c.rest ≡ together 10 (m ∷ ls) → LinesRight t (lines_declare c.drawing (suc n) (m ∷ ls))) → LinesRight t (lines_declare b.drawing n (l ∷ (m ∷ ls)))
    line_right go_on = ⊎_elim none some (seen (line_says n l))
      where
        -- declaring comes to o
        comes : (o : Result Declared Refusal) → declare b.drawing n (line_says n l) ≡ o → LinesRight t (and_then o (λ d. lines_declare d (suc n) (m ∷ ls))) → LinesRight t (lines_declare b.drawing n (l ∷ (m ∷ ls)))
        comes o p h = subst (λ r. LinesRight t (and_then r (λ d. lines_declare d (suc n) (m ∷ ls)))) (sym p) h

        none : line_says n l ≡ None → LinesRight t (lines_declare b.drawing n (l ∷ (m ∷ ls)))
        none p = comes (Err (Form n)) (ap (declare b.drawing n) p) (record { begins = b; there = there; none = λ x after s f g. clash (sym p ∙ same_text x after s g) })

        declared : (x : Declaration) → line_says n l ≡ Some x → Sized x → b.rest ≡ ended (text_of x) ++ together 10 (m ∷ ls) → Declares b.drawing n x → LinesRight t (lines_declare b.drawing n (l ∷ (m ∷ ls)))
        declared x p s q (grows f o r) = comes (Ok (grown b.drawing x)) (ap (declare b.drawing n) p ∙ r) (go_on (goes_on x (together 10 (m ∷ ls)) s f o q) refl)
        declared x p s q (over f o r) = comes (Err (Limit n)) (ap (declare b.drawing n) p ∙ r) (record { begins = b; more = x; after = together 10 (m ∷ ls); sized = s; follows = f; text = q; over = o })
        declared x p s q (amiss f r) =
            comes (Err (Form n)) (ap (declare b.drawing n) p ∙ r) (record { begins = b; there = there; none = λ y after v g h. let i = same_text y after v h in let j : y ≡ x = cc in f (subst (MayFollow b.drawing) j g) })

        some : (x : Declaration) × (line_says n l ≡ Some x) → LinesRight t (lines_declare b.drawing n (l ∷ (m ∷ ls)))
        some (x, p) =
            let s = line_says_text n l x p in
            declared x p s.1 (e ∙ ap (λ r. r ++ 10 ∷ together 10 (m ∷ ls)) s.0 ∙ sym (append_assoc (text_of x) (10 ∷ []) (together 10 (m ∷ ls)))) (declares b.drawing n x)

lines_right : (t : List ℕ) (n : ℕ) (b : Begins t n) (ls : List (List ℕ)) → b.rest ≡ together 10 ls → All (Lacks 10) ls → LinesRight t (lines_declare b.drawing n ls)
lines_right t n b [] e k = (b.within, b.text ∙ ap (λ r. written b.drawing ++ r) e ∙ append-nil _)
lines_right t n b (l ∷ []) e k = last_right t n b l e k.0
lines_right t n b (l ∷ (m ∷ ls)) e k = line_right t n b l m ls e k (λ c f. lines_right t (suc n) c (m ∷ ls) f k.1)

-- reading goes on behind a declaration's line
declared_on : (d : Declared) (n : ℕ) (x : Declaration) (rest : List ℕ) → Sized x → (o : Result Declared Refusal) → declare d n (Some x) ≡ o → lines_declare d n (pieces 10 (ended (text_of x) ++ rest)) ≡ and_then o (λ e. lines_declare e (suc n) (pieces 10 rest))
declared_on d n x rest s o r =
    let p = some_pieces 10 rest in
    ap (lines_declare d n) (first_line x rest s ∙ ap (λ ps. text_of x ∷ ps) p.2) ∙ ap (λ a. and_then a (λ e. lines_declare e (suc n) (p.0 ∷ p.1))) (ap (declare d n) (text_says n x s) ∙ r) ∙ ap (λ ps. and_then o (λ e. lines_declare e (suc n) ps)) (sym p.2)

read_on : (d : Declared) (n : ℕ) (x : Declaration) (rest : List ℕ) → Sized x → MayFollow d x → (Over d x → ⊥) → lines_declare d n (pieces 10 (ended (text_of x) ++ rest)) ≡ lines_declare (grown d x) (suc n) (pieces 10 rest)
read_on d n x rest s f o = declared_on d n x rest s (Ok (grown d x)) (go (declares d n x))
  where
    go : Declares d n x → declare d n (Some x) ≡ Ok (grown d x)
    go (grows _ _ r) = r
    go (over _ v r) = absurd (o v)
    go (amiss v r) = absurd (v f)

abbrev blocks_text : List Block → List ℕ
blocks_text bs = flat_map (λ x. ended (block_text x)) bs

abbrev routes_text : List (List ℕ) → List ℕ
routes_text rs = flat_map (λ r. ended (route_text r)) rs

abbrev drawing_of : List Block → List (List ℕ) → Declared
drawing_of bs rs = record { blocks = bs; routes = rs }

read_blocks : (cs bs : List Block) (n : ℕ) (rest : List ℕ) → length cs + length bs ≤ 64 → All BlockSized bs → lines_declare (drawing_of cs []) n (pieces 10 (blocks_text bs ++ rest)) ≡ lines_declare (drawing_of (cs ++ bs) []) (n + length bs) (pieces 10 rest)
read_blocks cs [] n rest l h = simp (append-nil, add-zero)
read_blocks cs (b ∷ bs) n rest l h =
    ap (λ r. lines_declare (drawing_of cs []) n (pieces 10 r)) (append_assoc (ended (block_text b)) (blocks_text bs) rest)
    ∙ read_on (drawing_of cs []) n (block b) (blocks_text bs ++ rest) h.0 refl (λ o. omega arith)
    ∙ read_blocks (cs ++ b ∷ []) bs (suc n) rest (omega (arith, length-append cs (b ∷ []))) h.1
    ∙ ap₂ (λ (ds : List Block) (m : ℕ). lines_declare (drawing_of ds []) m (pieces 10 rest)) (append_assoc cs (b ∷ []) bs) (omega arith)

abbrev RouteFits : List ℕ → Type 0
RouteFits r = (length r ≤ 24) × RouteSized r

read_routes : (bs : List Block) (qs rs : List (List ℕ)) (n : ℕ) (rest : List ℕ) → length qs + length rs ≤ 32 → All RouteFits rs → lines_declare (drawing_of bs qs) n (pieces 10 (routes_text rs ++ rest)) ≡ lines_declare (drawing_of bs (qs ++ rs)) (n + length rs) (pieces 10 rest)
read_routes bs qs [] n rest l h = simp (append-nil, add-zero)
read_routes bs qs (r ∷ rs) n rest l h =
    ap (λ t. lines_declare (drawing_of bs qs) n (pieces 10 t)) (append_assoc (ended (route_text r)) (routes_text rs) rest)
    ∙ read_on (drawing_of bs qs) n (route r) (routes_text rs ++ rest) h.0.1 tt (λ o. ⊎_elim (λ (k : 32 ≤ length qs). omega arith) (λ (k : 24 < length r). omega arith) o)
    ∙ read_routes bs (qs ++ r ∷ []) rs (suc n) rest (omega (arith, length-append qs (r ∷ []))) h.1
    ∙ ap₂ (λ (ps : List (List ℕ)) (m : ℕ). lines_declare (drawing_of bs ps) m (pieces 10 rest)) (append_assoc qs (r ∷ []) rs) (omega arith)

-- the text of a drawing is read as that drawing, and what stands behind it is read next
read_written : (d : Declared) (rest : List ℕ) → Within d → lines_declare empty 1 (pieces 10 (written d ++ rest)) ≡ lines_declare d (lines d + 1) (pieces 10 rest)
read_written d rest w =
    ap (λ r. lines_declare empty 1 (pieces 10 r)) (append_assoc (blocks_text d.blocks) (routes_text d.routes) rest)
    ∙ read_blocks [] d.blocks 1 (routes_text d.routes ++ rest) (omega (arith, w.few_blocks)) (All-from_get_or BlockSized d.blocks no_block w.blocks)
    ∙ read_routes d.blocks [] d.routes (1 + length d.blocks) rest (omega (arith, w.few_routes)) (All-from_get_or RouteFits d.routes [] (λ r l. (w.short r l, w.routes r l)))
    ∙ ap (λ m. lines_declare d m (pieces 10 rest)) (omega arith)

read_short : (t : List ℕ) → length t ≤ 8192 → read t ≡ judged (lines_declare empty 1 (pieces 10 t))
read_short t l = cond-false _ _ _ (le-ltb _ _ l)

-- a text that begins with a drawing is read from its first line behind that
read_begun : (t : List ℕ) (n : ℕ) (b : Begins t n) → read t ≡ judged (lines_declare b.drawing n (pieces 10 b.rest))
read_begun t n b =
    read_short t b.short
    ∙ ap judged (ap (λ r. lines_declare empty 1 (pieces 10 r)) b.text ∙ read_written b.drawing b.rest b.within ∙ ap (λ m. lines_declare b.drawing m (pieces 10 b.rest)) (sym b.line))

read_drawn : (t : List ℕ) (d : Draws t) → read t ≡ judged (Ok d.drawing)
read_drawn t d = read_begun t _ (record { short = d.short; drawing = d.drawing; within = d.within; rest = []; text = d.text ∙ sym (append-nil _); line = refl })

limit_only : (t : List ℕ) (n : ℕ) → OverLimit t n → read t ≡ Err (Limit n)
limit_only t n v =
    let d = v.begins.drawing in
    read_begun t n v.begins
    ∙ ap judged (ap (λ r. lines_declare d n (pieces 10 r)) v.text ∙ declared_on d n v.more v.after v.sized (Err (Limit n)) (go (declares d n v.more)))
  where
    go : Declares v.begins.drawing n v.more → declare v.begins.drawing n (Some v.more) ≡ Err (Limit n)
    go (grows f o r) = absurd (o v.over)
    go (over f o r) = r
    go (amiss f r) = absurd (f v.follows)

form_only : (t : List ℕ) (n : ℕ) → WrongForm t n → read t ≡ Err (Form n)
form_only t n v = let p = some_pieces 10 v.begins.rest in read_begun t n v.begins ∙ ap judged (ap (lines_declare v.begins.drawing n) p.2 ∙ go p.0 p.1 (sym (pieces_together 10 v.begins.rest) ∙ ap (together 10) p.2))
  where
    go : (l : List ℕ) (ls : List (List ℕ)) → v.begins.rest ≡ together 10 (l ∷ ls) → lines_declare v.begins.drawing n (l ∷ ls) ≡ Err (Form n)
    go l [] e = cond-false _ _ _ (ne_eqb (length l) 0 (λ z. let f = ap length (e ∙ append-nil l) in omega (arith, v.there)))
    go l (m ∷ ls) e = ap (λ o. and_then o (λ d. lines_declare d (suc n) (m ∷ ls))) (⊎_elim (λ p. ap (declare v.begins.drawing n) p) some (seen (line_says n l)))
      where
        declared : (x : Declaration) → Sized x → v.begins.rest ≡ ended (text_of x) ++ together 10 (m ∷ ls) → Declares v.begins.drawing n x → declare v.begins.drawing n (Some x) ≡ Err (Form n)
        declared x s q (grows f o r) = absurd (v.none x _ s f q)
        declared x s q (over f o r) = absurd (v.none x _ s f q)
        declared x s q (amiss f r) = r

        some : (x : Declaration) × (line_says n l ≡ Some x) → declare v.begins.drawing n (line_says n l) ≡ Err (Form n)
        some (x, p) =
            let s = line_says_text n l x p in
            ap (declare v.begins.drawing n) p ∙ declared x s.1 (e ∙ ap (λ r. r ++ 10 ∷ together 10 (m ∷ ls)) s.0 ∙ sym (append_assoc (text_of x) (10 ∷ []) (together 10 (m ∷ ls)))) (declares v.begins.drawing n x)

-- a drawing without blocks or without routes
judged_empty : (d : Declared) → (d.blocks ≡ []) ⊎ (d.routes ≡ []) → judged (Ok d) ≡ Err Empty
judged_empty d (inl e) = cond-true _ _ _ (or_left _ _ (eq-eqb _ _ (ap length e)))
judged_empty d (inr e) = cond-true _ _ _ (or_right _ _ (eq-eqb _ _ (ap length e)))

judged_placed : (d : Declared) → 0 < length d.blocks → 0 < length d.routes → judged (Ok d) ≡ placed d (judge d.blocks d.routes)
judged_placed d b r = cond-false _ _ _ (or_from _ _ (ne_eqb (length d.blocks) 0 (λ e. omega arith)) (ne_eqb (length d.routes) 0 (λ e. omega arith)))

placed_right : (t : List ℕ) (w : Draws t) → 0 < length w.drawing.blocks → 0 < length w.drawing.routes → (r : Result (List (List Step)) Broken) → JudgedRight w.drawing.blocks w.drawing.routes r → RightAnswer t (placed w.drawing r)
placed_right t w b r (Ok sss) h = record { drawing = w.drawing; text = w.text; short = w.short; within = w.within; some_block = b; some_route = r; same_blocks = refl; lawful = h }
placed_right t w b r (Err (BrokenBlock ρ c)) h = record { draws = w; some_route = r; number = c; breaks = h; line = refl }
placed_right t w b r (Err (BrokenRoute ρ q)) h = record { draws = w; some_block = b; number = q; breaks = h; line = refl }

drawn_right : (t : List ℕ) (w : Draws t) → RightAnswer t (judged (Ok w.drawing))
drawn_right t w = elim (cases_lt 0 (length w.drawing.blocks)) [
  | inr l ↦ subst (RightAnswer t) (sym (judged_empty w.drawing (inl (nil_from_length _ (omega arith))))) (record { draws = w; none = inl (nil_from_length _ (omega arith)) })
  | inl b ↦ elim (cases_lt 0 (length w.drawing.routes)) [
    | inr l ↦ subst (RightAnswer t) (sym (judged_empty w.drawing (inr (nil_from_length _ (omega arith))))) (record { draws = w; none = inr (nil_from_length _ (omega arith)) })
    | inl r ↦ subst (RightAnswer t) (sym (judged_placed w.drawing b r)) (placed_right t w b r (judge w.drawing.blocks w.drawing.routes) (judge_right w.drawing.blocks w.drawing.routes))
  ]
]

pub read_right : (t : List ℕ) → RightAnswer t (read t)
read_right t = elim (cases_lt 8192 (length t)) [
  | inl l ↦ subst (RightAnswer t) (sym (cond-true _ _ _ (lt-ltb _ _ l))) l
  | inr l ↦ subst (RightAnswer t) (sym (read_short t l)) (go l (lines_declare empty 1 (pieces 10 t)) (lines_right t 1 (nothing t l) (pieces 10 t) (sym (pieces_together 10 t)) (pieces_lack 10 t)))
]
  where
    go : length t ≤ 8192 → (o : Result Declared Refusal) → LinesRight t o → RightAnswer t (judged o)
    go l (Ok d) h = drawn_right t (record { short = l; drawing = d; within = h.0; text = h.1 })
    go l (Err e) h = h

-- a drawing with blocks and routes is judged by its rules alone
placed_only : (t : List ℕ) (w : Draws t) → 0 < length w.drawing.blocks → 0 < length w.drawing.routes → (r : Result (List (List Step)) Broken) → JudgedRight w.drawing.blocks w.drawing.routes r → read t ≡ placed w.drawing r
placed_only t w b r j h = read_drawn t w ∙ judged_placed w.drawing b r ∙ ap (placed w.drawing) (judge_only w.drawing.blocks w.drawing.routes j h)

pub read_only : (t : List ℕ) (r : Result Plan Refusal) → RightAnswer t r → read t ≡ r
read_only t (Ok p) h =
    placed_only t (record { short = h.short; drawing = h.drawing; within = h.within; text = h.text }) h.some_block h.some_route (Ok p.routes) h.lawful
    ∙ ap (λ (bs : List Block). Ok (record { blocks = bs; routes = p.routes })) (sym h.same_blocks)
read_only t (Err TooLong) h = cond-true _ _ _ (lt-ltb _ _ h)
read_only t (Err (Form n)) h = form_only t n h
read_only t (Err (Limit n)) h = limit_only t n h
read_only t (Err Empty) h = read_drawn t h.draws ∙ judged_empty h.draws.drawing h.none
read_only t (Err (BlockRefused ρ n)) h = placed_only t h.draws (omega (arith, h.breaks.there)) h.some_route (Err (BrokenBlock ρ h.number)) h.breaks ∙ ap (λ (m : ℕ). Err (BlockRefused ρ m)) (sym h.line)
read_only t (Err (RouteRefused ρ n)) h = placed_only t h.draws h.some_block (omega (arith, h.breaks.there)) (Err (BrokenRoute ρ h.number)) h.breaks ∙ ap (λ (m : ℕ). Err (RouteRefused ρ m)) (sym h.line)

right_apart : (t : List ℕ) (r : Result Plan Refusal) → RightAnswer t r → Apart r
right_apart t (Ok p) w = lawful_apart w.drawing.blocks w.drawing.routes p.routes w.lawful
right_apart t (Err e) w = tt

pub answers : (t : List ℕ) (r : Result Plan Refusal) → r ≡ read t → Answers t r
answers t r e =
    let right = subst (RightAnswer t) (sym e) (read_right t) in
    record { value = e; right = right; only = λ x w. e ∙ read_only t x w; borders = right_apart t r right }

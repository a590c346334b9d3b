-- A line that says a declaration is the text of that declaration. Assumes nothing.
use Rattle.std.proofs.Common.{◌≡◌, ℕ, ◌<◌, ◌≤◌, cond, List, [], ◌∷◌, ◌++◌, map, length, Some, None, codes, Option, sym, refl, ap, ◌∙◌, subst, ap₂, inl, inr, arith, rules}
use Rattle.std.specs.List.{AllByRecursion as All}
use Rattle.std.specs.Str.{bytes_eq}
use Rattle.std.proofs.ByRecursion.{All-weaker, All-append, All-map, All-get_or, All-from_get_or}
use Rattle.std.proofs.lemmas.Slice.Eq.{bytes_eq-Decides}
use Rattle.std.proofs.lemmas.Bool.{cases_Bool, cond-true, cond-false}
use Rattle.network.specs.declared.track.Joint.{Joint}
use Rattle.network.specs.declared.track.Block.TheVariants.{Plain, Point, Crossing}
use Rattle.reader.specs.Words.{Shown, pieces, token_of, joint_of, number_of}
use Rattle.reader.specs.Reads.{Declaration, block, route, first_item, each_read, joints, numbers, plain, point, crossing, listed, words_say, line_says}
use Rattle.reader.specs.Text.{digits, end_text, spaced, route_text, text_of, JointSized, Sized}
use Rattle.reader.proofs.Numbers.{clash}
use Rattle.reader.proofs.Pieces.{Lacks, together, lacks_above, some_pieces, pieces_together, together_pieces}
use Rattle.reader.proofs.Ends.{joint_says, word_says, digits_above, end_above, word_digits, joint_end}

abbrev Small : ℕ → Type 0
Small b = b < 100

first_item_says : {A : Type 0} (o : Option A) (p : Option (List A)) (xs : List A) → first_item o p ≡ Some xs → (y : A) × (ys : List A) × (o ≡ Some y) × (p ≡ Some ys) × (xs ≡ y ∷ ys)
first_item_says None p xs h = absurd (clash h)
first_item_says (Some y) None xs h = absurd (clash h)
first_item_says (Some y) (Some ys) xs h = (y, ys, refl, refl, cc)

-- f reads an item in a word: the item's text, where it can be written
module _ {A : Type 0} (f : Shown → Option A) (text : A → List ℕ) (P : A → Type 0) (n : ℕ) where
  each_says : ((w : List ℕ) (x : A) → f (token_of w n) ≡ Some x → (w ≡ text x) × P x) → (ws : List (List ℕ)) (xs : List A) → each_read f n ws ≡ Some xs → (ws ≡ map text xs) × All P xs
  each_says k [] xs h = let e : [] ≡ xs = cc in subst (λ ys. ([] ≡ map text ys) × All P ys) e (refl, tt)
  each_says k (w ∷ ws) xs h =
      let s = first_item_says (f (token_of w n)) (each_read f n ws) xs h in
      let both = k w s.0 s.2 in
      let b = each_says k ws s.1 s.3 in
      subst (λ ys. (w ∷ ws ≡ map text ys) × All P ys) (sym s.4) (ap₂ (λ (v : List ℕ) (vs : List (List ℕ)). v ∷ vs) both.0 b.0, (both.1, b.1))

  each_text : ((x : A) → P x → f (token_of (text x) n) ≡ Some x) → (xs : List A) → All P xs → each_read f n (map text xs) ≡ Some xs
  each_text k [] h = refl
  each_text k (x ∷ xs) h = rw (k x h.0, each_text k xs h.1)

joints_say : (n : ℕ) (ws : List (List ℕ)) (js : List Joint) → joints n ws ≡ Some js → (ws ≡ map end_text js) × All JointSized js
joints_say n = each_says joint_of end_text JointSized n (λ w. joint_says w n)

joints_ends : (n : ℕ) (js : List Joint) → All JointSized js → joints n (map end_text js) ≡ Some js
joints_ends n = each_text joint_of end_text JointSized n (λ j. joint_end j n)

numbers_say : (n : ℕ) (ws : List (List ℕ)) (bs : List ℕ) → numbers n ws ≡ Some bs → (ws ≡ map digits bs) × All Small bs
numbers_say n = each_says number_of digits Small n (λ w. word_says w n)

numbers_digits : (n : ℕ) (bs : List ℕ) → All Small bs → numbers n (map digits bs) ≡ Some bs
numbers_digits n = each_text number_of digits Small n (λ b. word_digits b n)

-- a word and words behind it say x
abbrev Says : List ℕ → List (List ℕ) → Declaration → Type 0
Says w ws x = (w ++ spaced ws ≡ text_of x) × Sized x

said : (w : List ℕ) (ws : List (List ℕ)) (x y : Declaration) → ◌≡◌ {A = Option Declaration} (Some x) (Some y) → Says w ws x → Says w ws y
said w ws x y e s = let f : x ≡ y = cc in subst (Says w ws) f s

plain_says : (ws : List (List ℕ)) (o : Option (List Joint)) (x : Declaration) → ((js : List Joint) → o ≡ Some js → (ws ≡ map end_text js) × All JointSized js) → plain o ≡ Some x → Says (codes "plain") ws x
plain_says ws None x k h = absurd (clash h)
plain_says ws (Some []) x k h = absurd (clash h)
plain_says ws (Some (a ∷ [])) x k h = absurd (clash h)
plain_says ws (Some (a ∷ (b ∷ []))) x k h =
    let s = k _ refl in
    said (codes "plain") ws (block (Plain a b)) x h (ap (λ vs. codes "plain" ++ spaced vs) s.0, (s.1.0, s.1.1.0))
plain_says ws (Some (a ∷ (b ∷ (c ∷ js)))) x k h = absurd (clash h)

point_says : (ws : List (List ℕ)) (o : Option (List Joint)) (x : Declaration) → ((js : List Joint) → o ≡ Some js → (ws ≡ map end_text js) × All JointSized js) → point o ≡ Some x → Says (codes "point") ws x
point_says ws None x k h = absurd (clash h)
point_says ws (Some []) x k h = absurd (clash h)
point_says ws (Some (a ∷ [])) x k h = absurd (clash h)
point_says ws (Some (a ∷ (b ∷ []))) x k h = absurd (clash h)
point_says ws (Some (a ∷ (b ∷ (c ∷ [])))) x k h =
    let s = k _ refl in
    said (codes "point") ws (block (Point a b c)) x h (ap (λ vs. codes "point" ++ spaced vs) s.0, (s.1.0, s.1.1.0, s.1.1.1.0))
point_says ws (Some (a ∷ (b ∷ (c ∷ (d ∷ js))))) x k h = absurd (clash h)

crossing_says : (ws : List (List ℕ)) (o : Option (List Joint)) (x : Declaration) → ((js : List Joint) → o ≡ Some js → (ws ≡ map end_text js) × All JointSized js) → crossing o ≡ Some x → Says (codes "crossing") ws x
crossing_says ws None x k h = absurd (clash h)
crossing_says ws (Some []) x k h = absurd (clash h)
crossing_says ws (Some (a ∷ [])) x k h = absurd (clash h)
crossing_says ws (Some (a ∷ (b ∷ []))) x k h = absurd (clash h)
crossing_says ws (Some (a ∷ (b ∷ (c ∷ [])))) x k h = absurd (clash h)
crossing_says ws (Some (a ∷ (b ∷ (c ∷ (d ∷ []))))) x k h =
    let s = k _ refl in
    said (codes "crossing") ws (block (Crossing a b c d)) x h (ap (λ vs. codes "crossing" ++ spaced vs) s.0, (s.1.0, s.1.1.0, s.1.1.1.0, s.1.1.1.1.0))
crossing_says ws (Some (a ∷ (b ∷ (c ∷ (d ∷ (e ∷ js)))))) x k h = absurd (clash h)

listed_says : (ws : List (List ℕ)) (o : Option (List ℕ)) (x : Declaration) → ((bs : List ℕ) → o ≡ Some bs → (ws ≡ map digits bs) × All Small bs) → listed o ≡ Some x → Says (codes "route") ws x
listed_says ws None x k h = absurd (clash h)
listed_says ws (Some []) x k h = absurd (clash h)
listed_says ws (Some (b ∷ bs)) x k h =
    let s = k _ refl in
    said (codes "route") ws (route (b ∷ bs)) x h (ap (λ vs. codes "route" ++ spaced vs) s.0, record { some = omega arith; small = λ i l. All-get_or Small (b ∷ bs) i 0 l s.1 })

-- a first word that is v, or another
either_word : {P : Type 0} (w v : List ℕ) (a b : Option Declaration) (x : Declaration) → cond (bytes_eq w v) a b ≡ Some x → (w ≡ v → a ≡ Some x → P) → (b ≡ Some x → P) → P
either_word w v a b x h same other = elim (cases_Bool (bytes_eq w v)) [
  | inl e ↦ same ((bytes_eq-Decides w v).0 e) (sym (cond-true _ a b e) ∙ h)
  | inr e ↦ other (sym (cond-false _ a b e) ∙ h)
]

words_say_text : (n : ℕ) (w : List ℕ) (ws : List (List ℕ)) (x : Declaration) → words_say n (w ∷ ws) ≡ Some x → Says w ws x
words_say_text n w ws x h =
    let at : (v : List ℕ) → w ≡ v → Says v ws x → Says w ws x = λ v e s. subst (λ u. Says u ws x) (sym e) s in
    either_word w (codes "plain") _ _ x h (λ e k. at _ e (plain_says ws (joints n ws) x (joints_say n ws) k)) (λ h.
    either_word w (codes "point") _ _ x h (λ e k. at _ e (point_says ws (joints n ws) x (joints_say n ws) k)) (λ h.
    either_word w (codes "crossing") _ _ x h (λ e k. at _ e (crossing_says ws (joints n ws) x (joints_say n ws) k)) (λ h.
    either_word w (codes "route") _ _ x h (λ e k. at _ e (listed_says ws (numbers n ws) x (numbers_say n ws) k)) (λ h. absurd (clash h)))))

pub line_says_text : (n : ℕ) (l : List ℕ) (x : Declaration) → line_says n l ≡ Some x → (l ≡ text_of x) × Sized x
line_says_text n l x h =
    let p = some_pieces 32 l in
    let s = words_say_text n p.0 p.1 x (sym (ap (words_say n) p.2) ∙ h) in
    (sym (pieces_together 32 l) ∙ ap (together 32) p.2 ∙ s.0, s.1)

ends_cut : (w : List ℕ) (js : List Joint) → Lacks 32 w → All JointSized js → pieces 32 (w ++ spaced (map end_text js)) ≡ w ∷ map end_text js
ends_cut w js k h =
    together_pieces 32 w (map end_text js) k (All-map (Lacks 32) end_text js (All-weaker JointSized (λ j. Lacks 32 (end_text j)) (λ j l. lacks_above 32 (end_text j) (end_above 32 j (omega arith) l)) js h))

digits_cut : (w bs : List ℕ) → Lacks 32 w → All Small bs → pieces 32 (w ++ spaced (map digits bs)) ≡ w ∷ map digits bs
digits_cut w bs k h =
    together_pieces 32 w (map digits bs) k (All-map (Lacks 32) digits bs (All-weaker Small (λ b. Lacks 32 (digits b)) (λ b l. lacks_above 32 (digits b) (digits_above 32 b (omega arith) l)) bs h))

route_says : (n : ℕ) (r : List ℕ) → 1 ≤ length r → All Small r → line_says n (route_text r) ≡ Some (route r)
route_says n [] l h = absurd (omega arith)
route_says n (b ∷ bs) l h = ap (words_say n) (digits_cut (codes "route") (b ∷ bs) (search rules) h) ∙ ap listed (numbers_digits n (b ∷ bs) h)

pub text_says : (n : ℕ) (x : Declaration) → Sized x → line_says n (text_of x) ≡ Some x
text_says n (block (Plain a b)) h =
    let js = a ∷ b ∷ [] in
    let k : All JointSized js = (h.0, (h.1, tt)) in
    ap (words_say n) (ends_cut (codes "plain") js (search rules) k) ∙ ap plain (joints_ends n js k)
text_says n (block (Point a b c)) h =
    let js = a ∷ b ∷ c ∷ [] in
    let k : All JointSized js = (h.0, (h.1, (h.2, tt))) in
    ap (words_say n) (ends_cut (codes "point") js (search rules) k) ∙ ap point (joints_ends n js k)
text_says n (block (Crossing a b c d)) h =
    let js = a ∷ b ∷ c ∷ d ∷ [] in
    let k : All JointSized js = (h.0, (h.1, (h.2, (h.3, tt)))) in
    ap (words_say n) (ends_cut (codes "crossing") js (search rules) k) ∙ ap crossing (joints_ends n js k)
text_says n (route r) h = route_says n r h.some (All-from_get_or Small r 0 h.small)

abbrev Above : ℕ → Type 0
Above b = 10 < b

spaced_above : (ws : List (List ℕ)) → All (All Above) ws → All Above (spaced ws)
spaced_above [] h = tt
spaced_above (w ∷ ws) h = (omega arith, All-append Above w (spaced ws) h.0 (spaced_above ws h.1))

ends_above : (w : List ℕ) (js : List Joint) → All Above w → All JointSized js → All Above (w ++ spaced (map end_text js))
ends_above w js k h =
    All-append Above w (spaced (map end_text js)) k (spaced_above (map end_text js) (All-map (All Above) end_text js (All-weaker JointSized (λ j. All Above (end_text j)) (λ j l. end_above 10 j (omega arith) l) js h)))

text_above : (x : Declaration) → Sized x → All Above (text_of x)
text_above (block (Plain a b)) h = ends_above (codes "plain") (a ∷ b ∷ []) (search rules) (h.0, (h.1, tt))
text_above (block (Point a b c)) h = ends_above (codes "point") (a ∷ b ∷ c ∷ []) (search rules) (h.0, (h.1, (h.2, tt)))
text_above (block (Crossing a b c d)) h = ends_above (codes "crossing") (a ∷ b ∷ c ∷ d ∷ []) (search rules) (h.0, (h.1, (h.2, (h.3, tt))))
text_above (route r) h =
    All-append Above (codes "route") (spaced (map digits r)) (search rules) (spaced_above (map digits r) (All-map (All Above) digits r (All-weaker Small (λ b. All Above (digits b)) (λ b l. digits_above 10 b (omega arith) l) r (All-from_get_or Small r 0 h.small))))

-- a declaration's text stays on its line
pub text_lacks : (x : Declaration) → Sized x → Lacks 10 (text_of x)
text_lacks x h = lacks_above 10 (text_of x) (text_above x h)

-- An interlocking that is made in service starts in agreement: its trackside is built as the sheet says, empty and dark.
use Rattle.std.proofs.Common.{◌≡◌, ℕ, zero, suc, ◌+◌, ◌<◌, Bool, true, false, cond, eqb, List, [], ◌∷◌, length, get_or, replicate, Some, None, Option, sym, refl, ap, ◌∙◌, inl, inr, arith}
use Rattle.std.proofs.lemmas.List.{get_or-replicate, get_or_past, length-replicate}
use Rattle.std.proofs.lemmas.Option.{slice_get_past}
use Rattle.std.proofs.lemmas.Bool.{cases_lt, true≢false, not-true, eqb-true, and_parts}
use Rattle.std.specs.Option.{option_map}
use Rattle.std.specs.List.{slice_get}
use Rattle.network.specs.declared.track.Kind.{Kind}
use Rattle.network.specs.declared.track.Kind.TheVariants.{Plain, Point, Crossing}
use Rattle.network.specs.declared.track.Joint.{Joint}
use Rattle.network.specs.declared.track.Joint.TheVariants.{Outer, Joined}
use Rattle.network.specs.declared.track.Block.{Block}
use Rattle.network.specs.Track.{kind_of, ends_of}
use Rattle.network.specs.Joints.{joint_in}
use Rattle.network.specs.Judge.{Plan}
use Rattle.trackside.specs.Ground.{Ground, WellMade}
use Rattle.book.specs.declared.Entry.{Entry}
use Rattle.book.specs.declared.refusal.Unfit.{Unfit}
use Rattle.book.specs.declared.state.RouteState.TheVariants.{Free}
use Rattle.book.specs.Books.{blank, new_book}
use Rattle.interlocking.specs.Fitness.{same_kind, same_joint, same_joints, built_alike, unless, differs, occupied, lit, or_else, first_unfit, unfit_for}
use Rattle.interlocking.specs.Ledger.{all_free}
use Rattle.interlocking.proofs.Changes.{Start}
use Rattle.interlocking.proofs.Argument.{none_some, starts}
use Rattle.interlocking.proofs.Routes.{layout, BuiltAs}
use Rattle.interlocking.proofs.LawsToActs.{world}
use Rattle.interlocking.proofs.Grounds.{start_of}
use Rattle.interlocking.proofs.Agreement.{Good}

-- kinds that are found alike are the same
kind_same : (o : Option Kind) (k : Kind) → same_kind o k ≡ true → o ≡ Some k
kind_same None k h = cc
kind_same (Some Plain) Plain h = refl
kind_same (Some Plain) Point h = cc
kind_same (Some Plain) Crossing h = cc
kind_same (Some Point) Plain h = cc
kind_same (Some Point) Point h = refl
kind_same (Some Point) Crossing h = cc
kind_same (Some Crossing) Plain h = cc
kind_same (Some Crossing) Point h = cc
kind_same (Some Crossing) Crossing h = refl

-- so are joints
joint_same : (i j : Joint) → same_joint i j ≡ true → i ≡ j
joint_same Outer Outer h = refl
joint_same Outer (Joined c f) h = cc
joint_same (Joined c f) Outer h = cc
joint_same (Joined c f) (Joined d k) h =
    let b = and_parts (eqb c d) (eqb f k) h in
    λ i. Joined (eqb-true c d b.0 i) (eqb-true f k b.1 i)

-- ends that are joined alike, one by one
joints_same : (g : Ground) (b e : ℕ) (js : List Joint) → same_joints g b e js ≡ true → (n : ℕ) (j : Joint) → slice_get js n ≡ Some j → g.joint b (e + n) ≡ j
joints_same g b e [] h n j i = absurd (none_some refl i)
joints_same g b e (k ∷ ks) h zero j i =
    let f : e + 0 ≡ e = omega arith in
    let k-is : k ≡ j = cc in
    ap (g.joint b) f ∙ joint_same (g.joint b e) k (and_parts (same_joint (g.joint b e) k) (same_joints g b (suc e) ks) h).0 ∙ k-is
joints_same g b e (k ∷ ks) h (suc n) j i =
    let f : e + suc n ≡ suc e + n = omega arith in
    ap (g.joint b) f ∙ joints_same g b (suc e) ks (and_parts (same_joint (g.joint b e) k) (same_joints g b (suc e) ks) h).1 n j i

-- neither of two checks finds anything
neither : (o n : Option Unfit) → or_else o n ≡ None → (o ≡ None) × (n ≡ None)
neither None n h = (refl, h)
neither (Some u) n h = absurd (none_some h refl)

-- a check that finds nothing has passed
unless_none : (t : Bool) (u : Unfit) → unless t u ≡ None → t ≡ true
unless_none true u h = refl
unless_none false u h = absurd (none_some h refl)

-- where a check finds no block unfit it says nothing of any
first_none : (says : ℕ → Block → Option Unfit) (b : ℕ) (xs : List Block) → first_unfit says b xs ≡ None → (n : ℕ) (x : Block) → slice_get xs n ≡ Some x → says (b + n) x ≡ None
first_none says b [] h n x i = absurd (none_some refl i)
first_none says b (y ∷ ys) h zero x i =
    let f : b + 0 ≡ b = omega arith in
    let y-is : y ≡ x = cc in
    ap (λ m. says m x) f ∙ ap (says b) (sym y-is) ∙ (neither (says b y) (first_unfit says (suc b) ys) h).0
first_none says b (y ∷ ys) h (suc n) x i =
    let f : b + suc n ≡ suc b + n = omega arith in
    ap (λ m. says m x) f ∙ first_none says (suc b) ys (neither (says b y) (first_unfit says (suc b) ys) h).1 n x i

-- a trackside that is fit for the blocks of a sheet
pub record Fit (g : Ground) (bs : List Block) : Type 0 where
  pub count : g.count ≡ length bs
  pub alike : (b : ℕ) (x : Block) → slice_get bs b ≡ Some x → built_alike g b x ≡ true
  pub empty : (b : ℕ) (x : Block) → slice_get bs b ≡ Some x → g.occupied b ≡ false
  pub dark : (b : ℕ) (x : Block) → slice_get bs b ≡ Some x → g.green b ≡ false

-- the count is right, and no check finds anything
if_count : (t : Bool) (o : Option Unfit) (u : Unfit) → cond t o (Some u) ≡ None → (t ≡ true) × (o ≡ None)
if_count true o u h = (refl, h)
if_count false o u h = absurd (none_some h refl)

-- a trackside of which nothing is found is fit
is_fit : (g : Ground) (bs : List Block) → unfit_for g bs ≡ None → Fit g bs
is_fit g bs h =
    let both = if_count (eqb g.count (length bs)) _ _ h in
    let b = neither (first_unfit (differs g) 0 bs) _ both.1 in
    let c = neither (first_unfit (λ b x. occupied g b) 0 bs) _ b.1 in
    record {
      count = eqb-true g.count (length bs) both.0;
      alike = λ n x i. let f : 0 + n ≡ n = omega arith in ap (λ m. built_alike g m x) (sym f) ∙ unless_none _ _ (first_none (differs g) 0 bs b.0 n x i);
      empty = λ n x i. let f : 0 + n ≡ n = omega arith in ap g.occupied (sym f) ∙ not-true _ (unless_none _ _ (first_none (λ b x. occupied g b) 0 bs c.0 n x i));
      dark = λ n x i. let f : 0 + n ≡ n = omega arith in ap g.green (sym f) ∙ not-true _ (unless_none _ _ (first_none (λ b x. lit g b) 0 bs c.1 n x i));
    }

-- there is a block for every number below the count
some_block : (bs : List Block) (b : ℕ) → b < length bs → (x : Block) × (slice_get bs b ≡ Some x)
some_block [] b n = absurd (omega arith)
some_block (x ∷ xs) zero n = (x, refl)
some_block (x ∷ xs) (suc b) n = some_block xs b (omega arith)

-- a fit trackside is built as planned
fit_built : (most : ℕ) (p : Plan) (g : Ground) → WellMade most g → Fit g p.blocks → BuiltAs p g
fit_built most p g made f = record {
  count = f.count;
  kind = λ b. elim (cases_lt b g.count) [
    | inl n ↦ let x = some_block p.blocks b (omega (arith, f.count)) in kind_same (g.kind b) _ (and_parts (same_kind (g.kind b) (kind_of x.0)) (same_joints g b 0 (ends_of x.0)) (f.alike b x.0 x.1)).0 ∙ sym (ap (option_map kind_of) x.1)
    | inr n ↦ made.unknown b n ∙ sym (ap (option_map kind_of) (slice_get_past p.blocks b (omega (arith, f.count))))
  ];
  joint = λ b e j. joints b e j (slice_get p.blocks b) refl;
}
  where
    joints : (b e : ℕ) (j : Joint) (o : Option Block) → slice_get p.blocks b ≡ o → joint_in o e ≡ Some j → g.joint b e ≡ j
    joints b e j None i h = absurd (none_some refl h)
    joints b e j (Some x) i h =
        let m : 0 + e ≡ e = omega arith in
        ap (g.joint b) (sym m) ∙ joints_same g b 0 (ends_of x) (and_parts (same_kind (g.kind b) (kind_of x)) (same_joints g b 0 (ends_of x)) (f.alike b x i)).1 e j h

-- a row of one entry
all_same : {A : Type 0} (n i : ℕ) (v : A) → get_or (replicate n v) i v ≡ v
all_same n i v = elim (cases_lt i n) [
  | inl m ↦ get_or-replicate n i v v m
  | inr m ↦ get_or_past (replicate n v) i v (rw (length-replicate n v) m)
]

-- book, ledger and ground agree at the start
pub made_good : (most : ℕ) (p : Plan) (g : Ground) → WellMade most g → unfit_for g p.blocks ≡ None → Good p g all_free new_book
made_good most p g made h = record {
  holders = λ b. ap (λ (e : Entry). e.holder) (all_same 64 b blank);
  states = λ r. all_same 32 r Free;
  noted = λ b q. absurd (omega (arith, q.1.within, ap (λ ts. length (get_or ts q.0 [])) start.trains));
  real = λ b o. absurd (true≢false (sym o ∙ ap (λ (e : Entry). e.occupied) (all_same 64 b blank)));
  long_blocks = length-replicate 64 blank;
  long_states = length-replicate 32 Free;
  built = fit_built most p g made fit;
  inv = starts (layout p) (world g all_free) start;
}
  where
    fit : Fit g p.blocks
    fit = is_fit g p.blocks h

    start : Start (world g all_free)
    start = start_of most g all_free made
        (λ b n. let x = some_block p.blocks b (omega (arith, fit.count)) in fit.empty b x.0 x.1)
        (λ b n. let x = some_block p.blocks b (omega (arith, fit.count)) in fit.dark b x.0 x.1)
        (λ b. refl)
        (λ r. refl)

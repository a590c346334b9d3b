-- What is accepted stays accepted when it is judged again, and is lawful. Assumes nothing.
use Rattle.std.proofs.Common.{◌≡◌, ℕ, ◌<◌, List, [], map, length, get_or, Some, None, Ok, Err, Option, Result, sym, refl, ap, ◌∙◌, subst, inl, inr, arith}
use Rattle.std.proofs.lemmas.List.{ext_get_or, length-map, get_or-map}
use Rattle.network.specs.declared.track.Block.{Block}
use Rattle.network.specs.declared.route.Step.{Step}
use Rattle.network.specs.declared.rules.Broken.{Broken}
use Rattle.network.specs.declared.rules.BlockRule.{BlockRule}
use Rattle.network.specs.declared.rules.BlockRule.TheVariants.{JointsExist, OuterEnds, JointsMutual}
use Rattle.network.specs.Judge.{Plan, judge, judge_routes, kept, block_breaks}
use Rattle.network.specs.Drawing.{Declared}
use Rattle.network.specs.Plans.{with_blocks, planned, RightlyPlanned, Apart, Judges}
use Rattle.network.specs.Routes.{blocks_in, AsJudged}
use Rattle.network.specs.Rules.{no_step, step_at, steps_at, block_at, route_at, Follows, Lawful, JudgedRight, AtBorder, BordersApart}
use Rattle.network.proofs.Judging.{judge_right, judge_only, border_only, border_only_last}

-- the steps of a route run through its blocks
follows_blocks : (bs : List Block) (r : List ℕ) (ss : List Step) → Follows bs r ss → blocks_in ss ≡ r
follows_blocks bs r ss f =
    ext_get_or 0 (blocks_in ss) r (length-map ss (λ (s : Step). s.block) ∙ f.long) (λ i l.
    let k : i < length ss = omega (arith, length-map ss (λ (s : Step). s.block), l) in
    get_or-map (λ (s : Step). s.block) ss i no_step 0 k ∙ f.blocks i (omega (arith, f.long)))

lawful_blocks : (bs : List Block) (rs : List (List ℕ)) (sss : List (List Step)) → Lawful bs rs sss → map blocks_in sss ≡ rs
lawful_blocks bs rs sss w =
    ext_get_or [] (map blocks_in sss) rs (length-map sss blocks_in ∙ w.long) (λ r l.
    let k : r < length sss = omega (arith, length-map sss blocks_in, l) in
    get_or-map blocks_in sss r [] [] k ∙ follows_blocks bs (route_at rs r) (get_or sss r []) (w.steps r (omega (arith, w.long))))

pub accepted_lawful : (bs : List Block) (rs : List (List ℕ)) (sss : List (List Step)) → judge bs rs ≡ Ok sss → AsJudged bs sss
accepted_lawful bs rs sss e = ap (judge bs) (lawful_blocks bs rs sss (subst (JudgedRight bs rs) e (judge_right bs rs))) ∙ e

pub lawful_plan : (bs : List Block) (sss : List (List Step)) → AsJudged bs sss → Lawful bs (map blocks_in sss) sss
lawful_plan bs sss h = subst (JudgedRight bs (map blocks_in sss)) h (judge_right bs (map blocks_in sss))

-- the blocks of a lawful plan's routes, read off their steps
module _ (bs : List Block) (sss : List (List Step)) (w : Lawful bs (map blocks_in sss) sss) where
  numbers_at : (r : ℕ) → r < length sss → route_at (map blocks_in sss) r ≡ blocks_in (steps_at sss r)
  numbers_at r l = get_or-map blocks_in sss r [] [] l

  number_at : (r i : ℕ) → r < length sss → i < length (steps_at sss r) → block_at (route_at (map blocks_in sss) r) i ≡ (step_at (steps_at sss r) i).block
  number_at r i l k = ap (λ ns. block_at ns i) (numbers_at r l) ∙ get_or-map (λ (s : Step). s.block) (steps_at sss r) i no_step 0 k

  long_at : (r : ℕ) → r < length sss → length (route_at (map blocks_in sss) r) ≡ length (steps_at sss r)
  long_at r l = ap length (numbers_at r l) ∙ length-map (steps_at sss r) (λ (s : Step). s.block)

  pub borders_apart : BordersApart sss
  borders_apart q r i j lq lr li lj o e =
      let many = length-map sss blocks_in in
      let nq = long_at q lq in
      let nr = long_at r lr in
      let same : block_at (route_at (map blocks_in sss) r) j ≡ block_at (route_at (map blocks_in sss) q) i = number_at r j lr lj ∙ sym e ∙ sym (number_at q i lq li) in
      let at : AtBorder j (length (route_at (map blocks_in sss) r)) = elim o [
        | inl z ↦ border_only bs (map blocks_in sss) sss w q r j (omega (arith, many)) (omega (arith, many)) (omega (arith, nr)) (same ∙ ap (block_at (route_at (map blocks_in sss) q)) z)
        | inr z ↦ border_only_last bs (map blocks_in sss) sss w q r j i (omega (arith, many)) (omega (arith, many)) (omega (arith, nr)) (z ∙ sym nq) same
      ] in
      elim at [ inl z ↦ inl z | inr z ↦ inr (z ∙ nr) ]

kept_none : (ρ : BlockRule) (x : Unit {0}) (o : Option ℕ) → Ok x ≡ kept ρ o → o ≡ None
kept_none ρ x None h = refl
kept_none ρ x (Some b) h = let z : ◌≡◌ {A = ℕ} 0 1 = cc in absurd (omega arith)

-- a drawing whose blocks keep each rule is judged by its routes
pub all_kept : (bs : List Block) (rs : List (List ℕ)) (o : Result (List (List Step)) Broken) (x y z : Unit {0}) → Ok x ≡ kept JointsExist (block_breaks bs JointsExist) → Ok y ≡ kept OuterEnds (block_breaks bs OuterEnds) → Ok z ≡ kept JointsMutual (block_breaks bs JointsMutual) → o ≡ judge_routes bs 0 rs → judge bs rs ≡ o
all_kept bs rs o x y z a b c h =
    rw (kept_none JointsExist x _ a) (rw (kept_none OuterEnds y _ b) (rw (kept_none JointsMutual z _ c) (sym h)))

planned_right : (d : Declared) (o : Result (List (List Step)) Broken) → JudgedRight d.blocks d.routes o → RightlyPlanned d (with_blocks d.blocks o)
planned_right d (Ok sss) w = (refl, w)
planned_right d (Err e) w = w

planned_only : (d : Declared) (r : Result Plan Broken) → RightlyPlanned d r → planned d ≡ r
planned_only d (Ok p) w =
    ap (with_blocks d.blocks) (judge_only d.blocks d.routes (Ok p.routes) w.1) ∙ (λ i. Ok (record { blocks = sym w.0 i; routes = p.routes }))
planned_only d (Err e) w = ap (with_blocks d.blocks) (judge_only d.blocks d.routes (Err e) w)

pub lawful_apart : (bs : List Block) (rs : List (List ℕ)) (sss : List (List Step)) → Lawful bs rs sss → BordersApart sss
lawful_apart bs rs sss w = borders_apart bs sss (subst (λ ns. Lawful bs ns sss) (sym (lawful_blocks bs rs sss w)) w)

right_apart : (d : Declared) (r : Result Plan Broken) → RightlyPlanned d r → Apart r
right_apart d (Ok p) w = lawful_apart d.blocks d.routes p.routes w.1
right_apart d (Err e) w = tt

pub judges : (d : Declared) (r : Result Plan Broken) → r ≡ planned d → Judges d r
judges d r e =
    let right = subst (RightlyPlanned d) (sym e) (planned_right d (judge d.blocks d.routes) (judge_right d.blocks d.routes)) in
    record { value = e; right = right; only = λ x w. e ∙ planned_only d x w; borders = right_apart d r right }

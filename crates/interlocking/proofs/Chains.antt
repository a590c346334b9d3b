-- The throws, lights and moves that a call makes, one after the other, and the tracksides between them.
use Rattle.std.proofs.Common.{◌≡◌, ℕ, suc, ◌<◌, List, [], ◌∷◌, length, Result, sym, ap, ◌∙◌, subst, inl, inr, arith, Ok, Err}
use Rattle.network.specs.declared.route.Step.{Step}
use Rattle.network.specs.declared.track.Position.{Position}
use Rattle.network.specs.Judge.{Plan}
use Rattle.network.specs.Rules.{step_at}
use Rattle.trackside.specs.declared.answers.Fault.{Fault}
use Rattle.trackside.specs.declared.answers.Moved.{Moved}
use Rattle.trackside.specs.declared.answers.Moved.TheVariants.{Quiet, Enter, Forward, Clear}
use Rattle.trackside.specs.declared.answers.Stuck.{Stuck}
use Rattle.trackside.specs.declared.Look.{Ghosts}
use Rattle.trackside.specs.Ground.{Ground}
use Rattle.trackside.specs.Laws.{Moves}
use Rattle.book.specs.declared.Book.{Book}
use Rattle.book.specs.declared.refusal.Refusal.{Refusal}
use Rattle.book.specs.declared.state.RouteState.TheVariants.{Reserved}
use Rattle.interlocking.specs.Points.{Act, Throw, Light, Move, Led, Lays, laid, lies, thrown, stuck}
use Rattle.interlocking.specs.Ledger.{Ledger}
use Rattle.interlocking.specs.Dangers.{Threw, Through}
use Rattle.interlocking.proofs.Track.{BlockOf}
use Rattle.interlocking.proofs.Routes.{layout}
use Rattle.interlocking.proofs.Agreement.{Fits, Good}
use Rattle.interlocking.proofs.GroundSteps.{throw_good}

-- no act is a throw
abbrev pub NoThrow : List Act → Type 0
NoThrow [] = Unit {0}
NoThrow (Throw b q o ∷ acts) = ⊥
NoThrow (Light b c o ∷ acts) = NoThrow acts
NoThrow (Move m ∷ acts) = NoThrow acts

-- each act is a throw at a block of route r
abbrev pub Along : Plan → ℕ → List Act → Type 0
Along p r [] = Unit {0}
Along p r (Throw b q o ∷ acts) = BlockOf (layout p) r b × Along p r acts
Along p r (Light b c o ∷ acts) = ⊥
Along p r (Move m ∷ acts) = ⊥

-- where no act is a throw no point was thrown
pub threw_none : (acts : List Act) (b : ℕ) → NoThrow acts → Threw acts b → ⊥
threw_none [] b n t = t
threw_none (Throw c q o ∷ acts) b n t = n
threw_none (Light c x o ∷ acts) b n t = threw_none acts b n t
threw_none (Move m ∷ acts) b n t = threw_none acts b n t

-- and where each is along a route, a point of that route was
pub threw_along : (p : Plan) (r : ℕ) (acts : List Act) (b : ℕ) → Along p r acts → Threw acts b → BlockOf (layout p) r b
threw_along p r [] b n t = absurd t
threw_along p r (Throw c q o ∷ acts) b n (inl e) = subst (BlockOf (layout p) r) e n.0
threw_along p r (Throw c q o ∷ acts) b n (inr t) = threw_along p r acts b n.1 t
threw_along p r (Light c x o ∷ acts) b n t = absurd n
threw_along p r (Move m ∷ acts) b n t = absurd n

-- a movement leaves every point as it lies
moved_points : (g h : Ground) (m : Result Moved Fault) → Moves g m h → (b : ℕ) → h.lies b ≡ g.lies b
moved_points g h (Ok Quiet) t b = ap (λ (z : Ground). z.lies b) t
moved_points g h (Err f) t b = ap (λ (z : Ground). z.lies b) t
moved_points g h (Ok (Enter k c)) t b = t.points.lies b
moved_points g h (Ok (Forward k c)) t b = t.points.lies b
moved_points g h (Ok (Clear k c)) t b = t.points.lies b

module _ {S : Type 0} (L : Ghosts S) where
  -- without a throw every point lies as before
  pub points_stay : (acts : List Act) (s t : S) → Led L s acts t → NoThrow acts → (b : ℕ) → (L.as_ground t).lies b ≡ (L.as_ground s).lies b
  points_stay [] s t c n b = ap (λ u. (L.as_ground u).lies b) (sym c)
  points_stay (Throw d q o ∷ acts) s t c n b = absurd n
  points_stay (Light d x o ∷ acts) s t c n b = points_stay acts c.0 t c.2 n b ∙ (L.lawful.lighting s c.0 d x o c.1).points.lies b
  points_stay (Move m ∷ acts) s t c n b = points_stay acts c.0 t c.2 n b ∙ moved_points _ _ m (L.lawful.moving s c.0 m c.1) b

  -- with throws along a route alone every other point does
  pub points_off : (p : Plan) (r : ℕ) (acts : List Act) (s t : S) → Led L s acts t → Along p r acts → (b : ℕ) → (BlockOf (layout p) r b → ⊥) → (L.as_ground t).lies b ≡ (L.as_ground s).lies b
  points_off p r [] s t c n b off = ap (λ u. (L.as_ground u).lies b) (sym c)
  points_off p r (Throw d q o ∷ acts) s t c n b off =
      points_off p r acts c.0 t c.2 n.1 b off ∙ (L.lawful.throwing s c.0 d q o c.1).others b (λ e. off (subst (BlockOf (layout p) r) (sym e) n.0))
  points_off p r (Light d x o ∷ acts) s t c n b off = absurd n
  points_off p r (Move m ∷ acts) s t c n b off = absurd n

  -- a route that is laid is thrown along
  pub lays_along : (p : Plan) (r : ℕ) {xs : List Step} {s t : S} {n : ℕ} {acts : List Act} {a : Result ℕ Refusal} → Lays L xs s n acts a t → ((i : ℕ) → i < length xs → BlockOf (layout p) r (step_at xs i).block) → Along p r acts
  lays_along p r laid of = tt
  lays_along p r (lies e more) of = lays_along p r more (λ i l. of (suc i) (omega arith))
  lays_along p r (thrown e t more) of = (of 0 (omega arith), lays_along p r more (λ i l. of (suc i) (omega arith)))
  lays_along p r (stuck e t) of = (of 0 (omega arith), tt)

  -- throws along a reserved route keep book, ledger and ground in agreement
  module _ (p : Plan) (l : Ledger) (k : Book) (fits : Fits p) (r : ℕ) (was : l.state r ≡ Reserved) where
    -- after one
    one_good : (s u : S) (b : ℕ) (q : Position) (o : Result Unit Stuck) → L.throws s b q o u → BlockOf (layout p) r b → Good p (L.as_ground s) l k → Good p (L.as_ground u) l k
    one_good s u b q o t of a = throw_good p (L.as_ground s) (L.as_ground u) l k fits a b q o r (L.lawful.throwing s u b q o t) of was

    -- after all
    pub along_good : (acts : List Act) (s t : S) → Led L s acts t → Along p r acts → Good p (L.as_ground s) l k → Good p (L.as_ground t) l k
    along_good [] s t c n a = subst (λ u. Good p (L.as_ground u) l k) c a
    along_good (Throw b q o ∷ acts) s t c n a = along_good acts c.0 t c.2 n.1 (one_good s c.0 b q o c.1 n.0 a)
    along_good (Light d x o ∷ acts) s t c n a = absurd n
    along_good (Move m ∷ acts) s t c n a = absurd n

    -- and at every moment between
    pub through_good : (acts : List Act) (s t : S) (c : Led L s acts t) → Along p r acts → Good p (L.as_ground s) l k → (u : S) → Through L s acts t c u → Good p (L.as_ground u) l k
    through_good [] s t c n a u e = subst (λ v. Good p (L.as_ground v) l k) (sym e) a
    through_good (Throw b q o ∷ acts) s t c n a u (inl e) = subst (λ v. Good p (L.as_ground v) l k) (sym e) a
    through_good (Throw b q o ∷ acts) s t c n a u (inr m) = through_good acts c.0 t c.2 n.1 (one_good s c.0 b q o c.1 n.0 a) u m
    through_good (Light d x o ∷ acts) s t c n a u m = absurd n
    through_good (Move m' ∷ acts) s t c n a u m = absurd n

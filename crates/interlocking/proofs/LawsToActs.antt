-- What the laws of a trackside say of a throw, a light and a movement, as acts over the layout of a plan.
use Rattle.std.proofs.Common.{◌≡◌, ℕ, ◌<◌, true, false, ◌≢◌, ◌⊎◌, List, get_or, Some, None, sym, refl, ap, ◌∙◌, subst, inl, inr, Result}
use Rattle.std.proofs.lemmas.Bool.{cases_eq}
use Rattle.network.specs.declared.track.Position.{Position}
use Rattle.network.specs.Judge.{Plan}
use Rattle.trackside.specs.declared.answers.Lamp.TheVariants.{Red, Green}
use Rattle.trackside.specs.declared.answers.Stuck.{Stuck}
use Rattle.trackside.specs.declared.answers.Stand.{Stand}
use Rattle.trackside.specs.Ground.{Ground, no_stand, way_on, WellMade}
use Rattle.trackside.specs.Laws.{Thrown, Lit, Enters as EntersGround, Forwards as ForwardsGround, Clears as ClearsGround}
use Rattle.book.specs.declared.state.RouteState.TheVariants.{Free, Reserved, Formed}
use Rattle.interlocking.specs.Ledger.{Ledger}
use Rattle.interlocking.proofs.Track.{block, World, train, under, Occupied, Held}
use Rattle.interlocking.proofs.Changes.{Put, PutAll, Throws, Opens, Cancels, Leads, Enters, Forwards, Clears, Leaves}
use Rattle.interlocking.proofs.Routes.{layout, BuiltAs, same_way, same_gate, same_outer, same_joined}

-- a ground with a ledger
abbrev pub world : Ground → Ledger → World
world g l = record { as_ground = g; ledger = l }

-- what is v at x, and as before at every other place
pub put_else : {A : Type 0} (x : ℕ) (v : A) (f f' : ℕ → A) → f' x ≡ v → ((y : ℕ) → (y ≡ x → ⊥) → f' y ≡ f y) → Put x v f f'
put_else x v f f' here other = record {
  here = here;
  else = λ y. elim (cases_eq y x) [ inl e ↦ inl e | inr n ↦ inr (other y n) ];
}

-- a block that is seen as not occupied has no train in it
pub no_train : (most : ℕ) (g : Ground) (l : Ledger) → WellMade most g → (b : ℕ) → g.occupied b ≡ false → Occupied (world g l) b → ⊥
no_train most g l made b e o =
    let t : g.occupied b ≡ true = ap g.occupied (sym o.is) ∙ made.noticed o.by o.at o.within in
    cc

-- a step of a trackside from the ground g to the ground h, with the ledger l before it
module _ (p : Plan) (g h : Ground) (l : Ledger) where
  -- a throw at the point of a step of a reserved route
  pub thrown_act : (b : ℕ) (q : Position) (a : Result Unit Stuck) (r i : ℕ) → Thrown g b q a h → i < (layout p).len r → b ≡ block (layout p) r i → l.state r ≡ Reserved → Throws (layout p) r i (world g l) (world h l)
  thrown_act b q a r i t within is was = record {
    was = was;
    within = within;
    lie = λ c. elim (cases_eq c b) [ inl e ↦ inl (e ∙ is) | inr n ↦ inr (t.others c n) ];
    lamps = t.lamps.green;
    trains = t.trains.trains;
    same = refl;
  }

  -- a lamp told green at the start of a formed route, all of it held and empty
  pub opened_act : (b : ℕ) (a : Result Unit Stuck) (r : ℕ) → Lit g b Green a h → b ≡ block (layout p) r 0 → l.state r ≡ Formed → 0 < (layout p).len r → ((i : ℕ) → i < (layout p).len r → Held (layout p) (world g l) r i) → ((i : ℕ) → i < (layout p).len r → Occupied (world g l) (block (layout p) r i) → ⊥) → Opens (layout p) r (world g l) (world h l)
  opened_act b a r t is was real held empty = record {
    was = was;
    real = real;
    held = held;
    empty = empty;
    lie = t.points.lies;
    lamps = λ c. elim (cases_eq c b) [ inl e ↦ inl (e ∙ is) | inr n ↦ inr (t.others c n) ];
    trains = t.trains.trains;
    same = refl;
  }

  -- a lamp told red at the start of a route that is cancelled
  pub cancelled_act : (l' : Ledger) (b : ℕ) (a : Result Unit Stuck) (r : ℕ) → Lit g b Red a h → b ≡ block (layout p) r 0 → l.state r ≢ Free → ((i : ℕ) → i < (layout p).len r → Held (layout p) (world g l) r i) → ((i : ℕ) → i < (layout p).len r → Occupied (world g l) (block (layout p) r i) → ⊥) → PutAll (layout p) r None l.holder l'.holder → Put r Free l.state l'.state → Cancels (layout p) r (world g l) (world h l')
  cancelled_act l' b a r t is was held empty holds becomes = record {
    was = was;
    held = held;
    empty = empty;
    holds = holds;
    becomes = becomes;
    lie = t.points.lies;
    lamps = subst (λ c. Put c false g.green h.green) is (put_else b false g.green h.green t.lands t.others);
    trains = t.trains.trains;
  }

  -- a train that enters
  pub entered_act : (k b : ℕ) → BuiltAs p g → (m : EntersGround g k b h) → Enters (layout p) b m.end (world g l) (world h l)
  entered_act k b built m = record {
    lit = m.lit;
    at = sym (same_gate p g built b) ∙ m.at;
    trains = m.trains;
    lie = m.points.lies;
    lamps = put_else b false g.green h.green m.red m.others;
    same = refl;
  }

  -- a way on from where a train stands is a way of the layout
  way_act : BuiltAs p g → (t : List Stand) (i e : ℕ) → way_on g (get_or t i no_stand) ≡ Some e → Leads (layout p) (world g l) t i e
  way_act built t i e w = sym (same_way p g built (get_or t i no_stand)) ∙ w

  -- a train whose front goes on
  pub forwarded_act : (most k b : ℕ) → WellMade most g → BuiltAs p g → (m : ForwardsGround g k b h) → Forwards (layout p) k m.is_front.0 m.end (record { block = b; entered = m.entered }) (world g l) (world h l)
  forwarded_act most k b made built m = record {
    there = m.there;
    front = m.is_front.1;
    leads = way_act built (train (world g l) k) m.is_front.0 m.end (ap (way_on g) m.is_front.2 ∙ m.leads);
    to = same_joined p g built most made _ m.end b m.entered (ap (λ (s : Stand). g.joint s.block m.end) m.is_front.2 ∙ m.across);
    trains = m.trains;
    lie = m.points.lies;
    lamps = m.lamps.green;
    same = refl;
  }

  -- a train whose rear clears a block, which is from then on held for no route: it has more blocks, or leaves the track
  pub cleared_act : (l' : Ledger) (k b : ℕ) → BuiltAs p g → ClearsGround g k b h → Put b None l.holder l'.holder → ((r : ℕ) → l'.state r ≡ l.state r) → Clears (layout p) k (world g l) (world h l') ⊎ ((e : ℕ) × Leaves (layout p) k e (world g l) (world h l'))
  cleared_act l' k b built m holds states = elim m.how [
    | inl s ↦ inl (record {
      there = m.there;
      long = s.long;
      trains = s.trains;
      lie = m.points.lies;
      lamps = m.lamps.green;
      holds = from_rear;
      states = states;
    })
    | inr s ↦ inr (
      s.end,
      record {
        there = m.there;
        one = s.short;
        leads = way_act built (train (world g l) k) 0 s.end s.leads;
        out = same_outer p g built _ s.end s.out;
        trains = s.trains;
        lie = m.points.lies;
        lamps = m.lamps.green;
        holds = from_rear;
        states = states;
      },
    )
  ]
    where
      from_rear : Put (under (train (world g l) k) 0) None l.holder l'.holder
      from_rear = subst (λ c. Put c None l.holder l'.holder) (sym m.rear) holds

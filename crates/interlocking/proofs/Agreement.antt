-- The book, the ledger and the ground of an interlocking in service agree, and the calls that change the book alone keep it so.
use Rattle.std.proofs.Common.{◌≡◌, ℕ, ◌<◌, ◌≤◌, Bool, true, cond, eqb, length, Some, Ok, Option, sym, refl, ap, ◌∙◌, inl, inr, arith}
use Rattle.std.proofs.lemmas.List.{length-set}
use Rattle.std.proofs.lemmas.Bool.{cases_Bool, cond-true, cond-false}
use Rattle.network.specs.declared.sheet.Sheet.{Sheet}
use Rattle.network.specs.Judge.{Plan}
use Rattle.network.proofs.Limits.{few_blocks as network_few, few_routes as routes_few}
use Rattle.network.specs.Rules.{steps_at}
use Rattle.network.specs.Sheets.{plan_of, PlanLawful}
use Rattle.network.proofs.Sheets.{lawful_plan}
use Rattle.trackside.specs.Ground.{Ground}
use Rattle.book.specs.declared.Book.{Book}
use Rattle.book.specs.declared.Entry.{Entry}
use Rattle.book.specs.declared.state.RouteState.{RouteState}
use Rattle.book.specs.declared.state.RouteState.TheVariants.{Free, Reserved, Formed}
use Rattle.book.specs.Books.{entry_of, holder_of, occupied_in, state_of, possessed_as, with_state, with_holders, with_possession}
use Rattle.book.specs.Guards.{may_reserve, may_free}
use Rattle.book.specs.Rules.{reserved_book}
use Rattle.book.proofs.Changed.{as_many, look_kept, as_many_marked, look_marked}
use Rattle.book.proofs.Guarded.{may_reserve_gives, may_free_gives}
use Rattle.interlocking.specs.Ledger.{Ledger, runs_through, changed, changed_along, with_reserved, with_formed, with_freed}
use Rattle.interlocking.specs.Trains.{StandsIn}
use Rattle.interlocking.proofs.Track.{block, needs, Suits, Occupied}
use Rattle.interlocking.proofs.Changes.Act.{reserve, form, let_free}
use Rattle.interlocking.proofs.Changes.{PutAll, Act}
use Rattle.interlocking.proofs.Argument.{Inv, keeps}
use Rattle.interlocking.proofs.Routes.{layout, sound, BuiltAs, exists, has_steps}
use Rattle.interlocking.proofs.LawsToActs.{world}
use Rattle.interlocking.proofs.BookRows.{set_changed, put_changed, runs_here, runs_where, Within, marked_along}

-- an accepted plan that the rows of the book have room for
pub record Fits (p : Plan) : Type 0 where
  pub law : PlanLawful p
  pub few_blocks : length p.blocks ≤ 64
  pub few_routes : length p.routes ≤ 32

-- every sheet is one
pub sheet_fits : (s : Sheet) → Fits (plan_of s)
sheet_fits s = record {
  law = lawful_plan _ _ s.lawful;
  few_blocks = network_few s.network;
  few_routes = routes_few s.routes;
}

-- a train stands in block b
abbrev pub InBlock : Ground → ℕ → Type 0
InBlock g b = (k : ℕ) × StandsIn g k b

-- that is, block b is occupied
pub as_occupied : (g : Ground) (l : Ledger) (b : ℕ) → InBlock g b → Occupied (world g l) b
as_occupied g l b o = record { by = o.0; at = o.1.at; within = o.1.within; is = o.1.is }

-- and the other way round
pub as_in_block : (g : Ground) (l : Ledger) (b : ℕ) → Occupied (world g l) b → InBlock g b
as_in_block g l b o = (o.by, record { at = o.at; within = o.within; is = o.is })

-- the book says what the ledger says, and has as occupied the blocks where trains stand; the ground is built as planned; and
-- trains, routes and lamps stand to each other as they must
pub record Good (p : Plan) (g : Ground) (l : Ledger) (k : Book) : Type 0 where
  pub holders : (b : ℕ) → holder_of k b ≡ l.holder b
  pub states : (r : ℕ) → state_of k r ≡ l.state r
  pub noted : (b : ℕ) → InBlock g b → occupied_in k b ≡ true
  pub real : (b : ℕ) → occupied_in k b ≡ true → InBlock g b
  pub long_blocks : length k.blocks ≡ 64
  pub long_states : length k.states ≡ 32
  pub built : BuiltAs p g
  pub inv : Inv (layout p) (world g l)

-- a column changed along route r
pub put_along : (p : Plan) (r : ℕ) (v : Option ℕ) (f : ℕ → Option ℕ) → PutAll (layout p) r v f (changed_along f (steps_at p.routes r) v)
put_along p r v f = record {
  here = λ i l. cond-true _ v (f _) (runs_here (steps_at p.routes r) i l);
  else = λ b. elim (cases_Bool (runs_through (steps_at p.routes r) b)) [
    | inl e ↦ let i = runs_where (steps_at p.routes r) b e in inl (record { at = i.0; within = i.1; is = i.2 })
    | inr e ↦ inr (cond-false (runs_through (steps_at p.routes r) b) v (f b) e)
  ];
}

-- route r of a plan, and a book that agrees
module _ (p : Plan) (g : Ground) (l : Ledger) (k : Book) (fits : Fits p) (a : Good p g l k) where
  -- the blocks of a route are in the rows
  pub in_rows : (r : ℕ) → Within (steps_at p.routes r) (length k.blocks)
  in_rows r i n = omega (arith, exists p fits.law r i n, fits.few_blocks, a.long_blocks)

  -- its blocks marked in the book are its blocks changed in the ledger
  pub marked_good : (r : ℕ) (v : Option ℕ) (b : ℕ) → holder_of (with_holders k (steps_at p.routes r) v) b ≡ changed_along l.holder (steps_at p.routes r) v b
  marked_good r v b = marked_along (steps_at p.routes r) k v (in_rows r) b ∙ ap (cond (runs_through (steps_at p.routes r) b) v) (a.holders b)

  -- and no block of it is occupied or empty for that
  pub as_occupied_marked : (r : ℕ) (v : Option ℕ) (b : ℕ) → occupied_in (with_holders k (steps_at p.routes r) v) b ≡ occupied_in k b
  as_occupied_marked r v b = look_marked (λ (e : Entry). e.occupied) (steps_at p.routes r) k v (λ e. refl) b

  -- its state put in the book is its state changed in the ledger
  pub state_good : (r : ℕ) (v : RouteState) → r < length p.routes → (q : ℕ) → state_of (with_state k r v) q ≡ cond (eqb q r) v (l.state q)
  state_good r v here q = set_changed k.states r v Free (omega (arith, here, fits.few_routes, a.long_states)) q ∙ ap (cond (eqb q r) v) (a.states q)

  -- a reserve
  pub reserve_good : (r : ℕ) → r < length p.routes → may_reserve k r (steps_at p.routes r) ≡ Ok tt → Good p g (with_reserved p r l) (reserved_book k r (steps_at p.routes r))
  reserve_good r here may =
      let m = may_reserve_gives k r (steps_at p.routes r) may in
      record {
        holders = marked_good r (Some r);
        states = state_good r Reserved here;
        noted = λ b q. as_occupied_marked r (Some r) b ∙ a.noted b q;
        real = λ b o. a.real b (sym (as_occupied_marked r (Some r) b) ∙ o);
        long_blocks = as_many_marked (steps_at p.routes r) k (Some r) ∙ a.long_blocks;
        long_states = length-set k.states r Reserved ∙ a.long_states;
        built = a.built;
        inv = keeps (layout p) (sound p fits.law) (world g l) _ a.inv (reserve r (record {
          real = has_steps p fits.law r here;
          was = sym (a.states r) ∙ m.0;
          unheld = λ i n. sym (a.holders _) ∙ m.1 i n;
          holds = put_along p r (Some r) l.holder;
          becomes = put_changed r Reserved l.state;
          same = refl;
        }));
      }

  -- route r's state put in the ledger
  abbrev put : ℕ → RouteState → Ledger
  put r v = record { holder = l.holder; state = changed l.state r v }

  -- an act that puts a route's state, and changes nothing else
  put_good : (r : ℕ) (v : RouteState) → r < length p.routes → Act (layout p) (world g l) (world g (put r v)) → Good p g (put r v) (with_state k r v)
  put_good r v here act = record {
    holders = a.holders;
    states = state_good r v here;
    noted = a.noted;
    real = a.real;
    long_blocks = a.long_blocks;
    long_states = length-set k.states r v ∙ a.long_states;
    built = a.built;
    inv = keeps (layout p) (sound p fits.law) (world g l) _ a.inv act;
  }

  -- a form
  pub form_good : (r : ℕ) → r < length p.routes → state_of k r ≡ Reserved → ((i : ℕ) → i < (layout p).len r → Suits (needs (layout p) r i) (g.lies (block (layout p) r i))) → Good p g (with_formed r l) (with_state k r Formed)
  form_good r here was suits = put_good r Formed here (form r (record {
    was = sym (a.states r) ∙ was;
    set = suits;
    becomes = put_changed r Formed l.state;
    holds = λ b. refl;
    same = refl;
  }))

  -- a free
  pub free_good : (r : ℕ) → r < length p.routes → may_free k r (steps_at p.routes r) ≡ Ok tt → Good p g (with_freed r l) (with_state k r Free)
  free_good r here may =
      let m = may_free_gives k r (steps_at p.routes r) may in
      put_good r Free here (let_free r (record {
        was = sym (a.states r) ∙ m.0;
        unheld = λ i n h. m.1 i n (a.holders _ ∙ h);
        becomes = put_changed r Free l.state;
        holds = λ b. refl;
        same = refl;
      }))

  -- a possession taken or given back
  pub possession_good : (b : ℕ) (on : Bool) → Good p g l (with_possession k b on)
  possession_good b on = record {
    holders = λ c. kept (λ (e : Entry). e.holder) (λ e. refl) c ∙ a.holders c;
    states = a.states;
    noted = λ c q. kept (λ (e : Entry). e.occupied) (λ e. refl) c ∙ a.noted c q;
    real = λ c o. a.real c (sym (kept (λ (e : Entry). e.occupied) (λ e. refl) c) ∙ o);
    long_blocks = as_many k b (possessed_as on) ∙ a.long_blocks;
    long_states = a.long_states;
    built = a.built;
    inv = a.inv;
  }
    where
      kept : {A : Type 0} (look : Entry → A) → ((e : Entry) → look (possessed_as on e) ≡ look e) → (c : ℕ) → look (entry_of (with_possession k b on) c) ≡ look (entry_of k c)
      kept look same c = look_kept k b (possessed_as on) look same c

-- The steps of a trackside keep book, ledger and ground in agreement: throws, lights and movements.
use Rattle.std.proofs.Common.{◌≡◌, ℕ, ◌<◌, true, false, cond, [], length, get_or, None, Ok, Err, Result, sym, refl, ap, ◌∙◌, subst, inl, inr, arith, ◌≢◌}
use Rattle.std.proofs.lemmas.List.{length-set}
use Rattle.std.proofs.lemmas.Bool.{cases_eq, true≢false}
use Rattle.network.specs.declared.track.Position.{Position}
use Rattle.network.specs.Judge.{Plan}
use Rattle.network.specs.Rules.{steps_at}
use Rattle.trackside.specs.declared.answers.Lamp.TheVariants.{Red, Green}
use Rattle.trackside.specs.declared.answers.Fault.{Fault}
use Rattle.trackside.specs.declared.answers.Moved.{Moved}
use Rattle.trackside.specs.declared.answers.Moved.TheVariants.{Quiet, Enter, Forward, Clear}
use Rattle.trackside.specs.declared.answers.Stuck.{Stuck}
use Rattle.trackside.specs.Ground.{Ground, no_stand, WellMade}
use Rattle.trackside.specs.Laws.{Thrown, Lit, Moves}
use Rattle.book.specs.declared.Book.{Book}
use Rattle.book.specs.declared.Entry.{Entry}
use Rattle.book.specs.declared.state.RouteState.TheVariants.{Free, Reserved}
use Rattle.book.specs.Books.{occupied_in, entry_of, with_entry, reached, with_occupied, cleared, with_cleared}
use Rattle.book.specs.Guards.{may_open, may_cancel}
use Rattle.book.specs.Rules.{cancelled_book, noted_if}
use Rattle.book.proofs.Changed.{as_many, entry_here, entry_else, look_kept, as_many_marked, holder_changed}
use Rattle.book.proofs.Guarded.{may_open_gives, may_cancel_gives}
use Rattle.interlocking.specs.Calls.{first_block, watched_of}
use Rattle.interlocking.specs.Promises.{Watch}
use Rattle.interlocking.specs.Ledger.{Ledger, with_cancelled, with_block_freed, after}
use Rattle.interlocking.proofs.Track.{BlockOf, Occupied}
use Rattle.interlocking.proofs.Changes.Act.{throw, open_lamp, cancel}
use Rattle.interlocking.proofs.Argument.{Inv, keeps}
use Rattle.interlocking.proofs.Routes.{layout, sound, BuiltAs, stays_built, has_steps}
use Rattle.interlocking.proofs.LawsToActs.{world, thrown_act, opened_act, cancelled_act}
use Rattle.interlocking.proofs.Grounds.{Noted, moved_act}
use Rattle.interlocking.proofs.BookRows.{put_changed}
use Rattle.interlocking.proofs.Agreement.{Fits, InBlock, as_in_block, Good, put_along, marked_good, as_occupied_marked, state_good}
use Rattle.interlocking.proofs.Movements.{Reached, Cleared, entered_in, forwarded_in, cleared_in}

-- where no train has moved, one is in each block as before
same_in : (g h : Ground) (b : ℕ) → h.trains ≡ g.trains → InBlock g b → InBlock h b
same_in g h b e q =
    let f = ap (λ ts. get_or ts q.0 []) (sym e) in
    (q.0, record { at = q.1.at; within = subst (λ t. q.1.at < length t) f q.1.within; is = subst (λ t. (get_or t q.1.at no_stand).block ≡ b) f q.1.is })

-- the ground changes from g to h
module _ (p : Plan) (g h : Ground) (l : Ledger) (k : Book) (fits : Fits p) (a : Good p g l k) where
  -- no train moves, and the ledger and the book stay
  standing_good : h.trains ≡ g.trains → BuiltAs p h → Inv (layout p) (world h l) → Good p h l k
  standing_good e built inv = record {
    holders = a.holders;
    states = a.states;
    noted = λ b q. a.noted b (same_in h g b (sym e) q);
    real = λ b o. same_in g h b e (a.real b o);
    long_blocks = a.long_blocks;
    long_states = a.long_states;
    built = built;
    inv = inv;
  }

  -- a throw at a block of a reserved route
  pub throw_good : (b : ℕ) (q : Position) (o : Result Unit Stuck) (r : ℕ) → Thrown g b q o h → BlockOf (layout p) r b → l.state r ≡ Reserved → Good p h l k
  throw_good b q o r t of was =
      standing_good t.trains.trains (stays_built p g h a.built t.built) (keeps (layout p) (sound p fits.law) (world g l) (world h l) a.inv (throw r of.at (thrown_act p g h l b q o r of.at t of.within (sym of.is) was)))

  -- a block that the book has as not occupied has no train in it
  pub no_train_in : (b : ℕ) → occupied_in k b ≡ false → Occupied (world g l) b → ⊥
  no_train_in b e o = true≢false (sym (a.noted b (as_in_block g l b o)) ∙ e)

  -- a lamp told green
  pub open_good : (r : ℕ) (o : Result Unit Stuck) → r < length p.routes → may_open k r (steps_at p.routes r) ≡ Ok tt → Lit g (first_block (steps_at p.routes r)) Green o h → Good p h l k
  open_good r o here may t =
      let m = may_open_gives k r (steps_at p.routes r) may in
      standing_good t.trains.trains (stays_built p g h a.built t.built) (keeps (layout p) (sound p fits.law) (world g l) (world h l) a.inv (open_lamp r (opened_act p g h l _ o r t refl (sym (a.states r) ∙ m.0) (has_steps p fits.law r here) (λ i n. sym (a.holders _) ∙ (m.1 i n).0) (λ i n. no_train_in _ (m.1 i n).1))))

  -- a cancel, with its lamp told red
  pub cancel_good : (r : ℕ) (o : Result Unit Stuck) → r < length p.routes → may_cancel k r (steps_at p.routes r) ≡ Ok tt → Lit g (first_block (steps_at p.routes r)) Red o h → Good p h (with_cancelled p r l) (cancelled_book k r (steps_at p.routes r))
  cancel_good r o here may t =
      let m = may_cancel_gives k r (steps_at p.routes r) may in
      record {
        holders = marked_good p g l k fits a r None;
        states = state_good p g l k fits a r Free here;
        noted = λ b q. as_occupied_marked p g l k fits a r None b ∙ a.noted b (same_in h g b (sym t.trains.trains) q);
        real = λ b o. same_in g h b t.trains.trains (a.real b (sym (as_occupied_marked p g l k fits a r None b) ∙ o));
        long_blocks = as_many_marked (steps_at p.routes r) k None ∙ a.long_blocks;
        long_states = length-set k.states r Free ∙ a.long_states;
        built = stays_built p g h a.built t.built;
        inv = keeps (layout p) (sound p fits.law) (world g l) (world h (with_cancelled p r l)) a.inv (cancel r (cancelled_act p g h l (with_cancelled p r l) _ o r t refl (λ e. m.0 (a.states r ∙ e)) (λ i n. sym (a.holders _) ∙ (m.1 i n).0) (λ i n. no_train_in _ (m.1 i n).1) (put_along p r None l.holder) (put_changed r Free l.state)));
      }

  -- a block is occupied by what an entry is changed to
  occupied_here : (b : ℕ) (f : Entry → Entry) → b < 64 → occupied_in (with_entry k b f) b ≡ (f (entry_of k b)).occupied
  occupied_here b f n = ap (λ (e : Entry). e.occupied) (entry_here k b f (omega (arith, a.long_blocks, n)))

  -- and the other blocks are as they were
  occupied_else : (b : ℕ) (f : Entry → Entry) (c : ℕ) → c ≢ b → occupied_in (with_entry k b f) c ≡ occupied_in k c
  occupied_else b f c d = ap (λ (e : Entry). e.occupied) (entry_else k b f c d)

  -- a block was reached
  reached_good : (b : ℕ) → b < 64 → Reached (layout p) g h l b → BuiltAs p h → Inv (layout p) (world h l) → Good p h l (with_occupied k b)
  reached_good b n m built inv = record {
    holders = λ c. look_kept k b reached (λ (e : Entry). e.holder) (λ e. refl) c ∙ a.holders c;
    states = a.states;
    noted = λ c q. elim (cases_eq c b) [
      | inl e ↦ ap (occupied_in (with_occupied k b)) e ∙ occupied_here b reached n
      | inr d ↦ occupied_else b reached c d ∙ elim (m.else c q) [ inl e ↦ absurd (d e) | inr o ↦ a.noted c o ]
    ];
    real = λ c o. elim (cases_eq c b) [
      | inl e ↦ subst (InBlock h) (sym e) m.here
      | inr d ↦ m.still c (a.real c (sym (occupied_else b reached c d) ∙ o))
    ];
    long_blocks = as_many k b reached ∙ a.long_blocks;
    long_states = a.long_states;
    built = built;
    inv = inv;
  }

  -- a block was cleared
  cleared_good : (b : ℕ) → b < 64 → Cleared (layout p) g h l b → BuiltAs p h → Inv (layout p) (world h (with_block_freed b l)) → Good p h (with_block_freed b l) (with_cleared k b)
  cleared_good b n m built inv = record {
    holders = λ c. holder_changed k b None cleared (λ e. refl) (omega (arith, a.long_blocks)) c ∙ ap (cond _ None) (a.holders c);
    states = a.states;
    noted = λ c q. elim (cases_eq c b) [
      | inl e ↦ absurd (m.none (subst (InBlock h) e q))
      | inr d ↦ occupied_else b cleared c d ∙ a.noted c (m.else c q)
    ];
    real = λ c o. elim (cases_eq c b) [
      | inl e ↦ absurd (true≢false (sym o ∙ ap (occupied_in (with_cleared k b)) e ∙ occupied_here b cleared n))
      | inr d ↦ m.still c d (a.real c (sym (occupied_else b cleared c d) ∙ o))
    ];
    long_blocks = as_many k b cleared ∙ a.long_blocks;
    long_states = a.long_states;
    built = built;
    inv = inv;
  }

  -- a movement keeps what holds between acts
  moved_inv : (most : ℕ) (l' : Ledger) (m : Result Moved Fault) → WellMade most g → Moves g m h → Noted m l l' → Inv (layout p) (world h l')
  moved_inv most l' m made t n = elim (moved_act p most g h l l' m made a.built t n) [
    | inl e ↦ subst (Inv (layout p)) (sym e) a.inv
    | inr c ↦ keeps (layout p) (sound p fits.law) (world g l) (world h l') a.inv c
  ]

  -- a train is in a block that the book has a row for
  in_row : (most b : ℕ) → WellMade most h → InBlock h b → b < 64
  in_row most b made q = omega (arith, made.stands q.0 q.1.at q.1.within, q.1.is, made.few)

  -- a watch
  pub watch_good : (most : ℕ) (m : Result Moved Fault) → WellMade most g → WellMade most h → Moves g m h → Good p h (after p (Watch (watched_of m)) l) (noted_if k m)
  watch_good most (Ok Quiet) made made' t = subst (λ z. Good p z l k) (sym t) a
  watch_good most (Err f) made made' t = subst (λ z. Good p z l k) (sym t) a
  watch_good most (Ok (Enter j b)) made made' t =
      let m = entered_in (layout p) g h l j b t in
      reached_good b (in_row most b made' m.here) m (stays_built p g h a.built t.built) (moved_inv most l (Ok (Enter j b)) made t refl)
  watch_good most (Ok (Forward j b)) made made' t =
      let m = forwarded_in (layout p) g h l j b t in
      reached_good b (in_row most b made' m.here) m (stays_built p g h a.built t.built) (moved_inv most l (Ok (Forward j b)) made t refl)
  watch_good most (Ok (Clear j b)) made made' t =
      let some = made.some_stand j t.there in
      let m = cleared_in (layout p) g h l (sound p fits.law) a.inv j b some t in
      cleared_good b (omega (arith, made.stands j 0 some, t.rear, made.few)) m (stays_built p g h a.built t.built) (moved_inv most (with_block_freed b l) (Ok (Clear j b)) made t (put_changed b None l.holder, λ r. refl))

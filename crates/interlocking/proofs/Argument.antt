-- Every act keeps trains apart, each on its route.
use Rattle.std.proofs.Common.{◌≡◌, ℕ, zero, suc, ◌+◌, ◌-◌, ◌<◌, ◌≤◌, Bool, true, false, ◌≢◌, ◌⊎◌, List, [], ◌∷◌, ◌++◌, length, get_or, take, drop, set, Some, None, Option, sym, refl, ap, ◌∙◌, subst, ap₂, inl, inr, ⊎_elim, arith}
use Rattle.std.proofs.lemmas.List.{get_or_push, length_push, get_or_append_left, get_or-set_same, get_or-set_other, get_or_past, get_or-take, get_or-drop, get_or-append_right, length-take-le, length-drop}
use Rattle.std.proofs.lemmas.Bool.{cases_eq, cases_lt}
use Rattle.trackside.specs.declared.answers.Stand.{Stand}
use Rattle.trackside.specs.Ground.{Ground, no_stand}
use Rattle.book.specs.declared.state.RouteState.{RouteState}
use Rattle.book.specs.declared.state.RouteState.TheVariants.{Free, Reserved, Formed}
use Rattle.interlocking.specs.Ledger.{Ledger}
use Rattle.interlocking.proofs.Track.{Layout, Sound, block, needs, Suits, World, train, lies, green, holder, state, under, Occupied, BlockOf, Held, Runs, Rides, Ready, Cancellable, Coming, Apart}
use Rattle.interlocking.proofs.Changes.Act.{reserve, throw, form, open_lamp, cancel, let_free, enter, forward, clear, leave}
use Rattle.interlocking.proofs.Changes.{Put, Reserves, Throws, Forms, Opens, Cancels, Frees, Leads, Enters, Forwards, Clears, Leaves, Act, Start}

-- nothing is both none and some
pub none_some : {A : Type 0} {o : Option A} {x : A} → o ≡ None → o ≡ Some x → ⊥
none_some {o} p q = cc

-- no route is both free and formed
free_formed : {a : RouteState} → a ≡ Free → a ≡ Formed → ⊥
free_formed p q = cc

-- no route is both free and reserved
free_reserved : {a : RouteState} → a ≡ Free → a ≡ Reserved → ⊥
free_reserved p q = cc

-- no route is both reserved and formed
pub reserved_formed : {a : RouteState} → a ≡ Reserved → a ≡ Formed → ⊥
reserved_formed p q = cc

-- no lamp is both green and red
true_false : {a : Bool} → a ≡ true → a ≡ false → ⊥
true_false p q = cc

-- a block is reserved for one route at most
pub same_holder : {o : Option ℕ} {q r : ℕ} → o ≡ Some q → o ≡ Some r → q ≡ r
same_holder p q = cc

-- one answer at most
same_some : {A : Type 0} {o : Option A} {x y : A} → o ≡ Some x → o ≡ Some y → x ≡ y
same_some p q = cc

-- the number that the j-th train had before the k-th left
old_number : (j k : ℕ) → (v : ℕ) × (((j < k) × (v ≡ j)) ⊎ ((k ≤ j) × (v ≡ suc j)))
old_number j k = ⊎_elim (λ l. (j, inl (l, refl))) (λ l. (suc j, inr (l, refl))) (cases_lt j k)

-- over one layout
module _ (s : Layout) where
  -- the phase of a route: free, holding nothing; reserved, all of it; ready for a train; ridden by train k; done, holding nothing
  pub data Phase (w : World) (r : ℕ) : Type 0 where
    idle : state w r ≡ Free → ((i : ℕ) → i < s.len r → Held s w r i → ⊥) → Phase w r
    kept : state w r ≡ Reserved → 0 < s.len r → ((i : ℕ) → i < s.len r → Held s w r i) → Phase w r
    ready : Ready s w r → Phase w r
    ridden : (k : ℕ) → Rides s w r (train w k) → Phase w r
    done : Runs s w r (s.len r) → Phase w r

  -- what holds between any two acts: a block is held for a route that it is of, each route is in one phase, each train rides a
  -- route, trains are apart, and a green lamp starts a ready route
  pub record Inv (w : World) : Type 0 where
    pub own : (b r : ℕ) → holder w b ≡ Some r → BlockOf s r b
    pub phase : (r : ℕ) → Phase w r
    pub rides : (k : ℕ) → 0 < length (train w k) → (r : ℕ) × Rides s w r (train w k)
    pub apart : Apart w
    pub lamps : (b : ℕ) → green w b ≡ true → (r : ℕ) × (block s r 0 ≡ b) × Ready s w r

  -- nothing that route q rests on changes
  record Untouched (q : ℕ) (w w' : World) : Type 0 where
    states : state w' q ≡ state w q
    keeps : (b : ℕ) → holder w b ≡ Some q → holder w' b ≡ Some q
    gains : (b : ℕ) → holder w' b ≡ Some q → holder w b ≡ Some q
    lie : (b : ℕ) → holder w b ≡ Some q → lies w' b ≡ lies w b

  -- a route that nothing touches stays as it is
  module _ (w w' : World) (q : ℕ) (f : Untouched q w w') where
    -- it runs as before
    still_runs : (m : ℕ) → Runs s w q m → Runs s w' q m
    still_runs m g = record {
      is = f.states ∙ g.is;
      held = λ i a b. f.keeps _ (g.held i a b);
      gone = λ i a b h. g.gone i a b (f.gains _ h);
      set = λ i a b. subst (Suits (needs s q i)) (sym (f.lie _ (g.held i a b))) (g.set i a b);
    }

    -- a train on it rides as before
    still_rides : (t : List Stand) → Rides s w q t → Rides s w' q t
    still_rides t g = record { rear = g.rear; runs = still_runs _ g.runs; some = g.some; fits = g.fits; stands = g.stands }

    -- it is ready as before, if no train came into it
    still_ready : ((i : ℕ) → i < s.len q → Occupied w' (block s q i) → Occupied w (block s q i)) → Ready s w q → Ready s w' q
    still_ready o g = record { real = g.real; whole = still_runs 0 g.whole; empty = λ i a b. g.empty i a (o i a b) }

  -- a lamp that is green after an act on route r is that of r, which is ready; or it was green before, and is not that of r
  abbrev LampsRight : ℕ → World → World → Type 0
  LampsRight r w w' =
      (b : ℕ) → green w' b ≡ true → ((block s r 0 ≡ b) × Ready s w' r) ⊎ ((green w b ≡ true) × (Ready s w r → block s r 0 ≢ b))

  -- what an act on route r does
  record Change (r : ℕ) (w w' : World) : Type 0 where
    others : (q : ℕ) → q ≢ r → Untouched q w w'
    phase : Phase w' r
    own : (b : ℕ) → holder w' b ≡ Some r → BlockOf s r b
    rides : (j : ℕ) → 0 < length (train w' j) → Rides s w' r (train w' j) ⊎ ((k : ℕ) × (train w' j ≡ train w k) × (Rides s w r (train w k) → ⊥))
    stays : (q k : ℕ) → q ≢ r → Rides s w q (train w k) → (j : ℕ) × (train w' j ≡ train w k)
    fresh : (b : ℕ) → Occupied w' b → Occupied w b ⊎ (holder w b ≡ Some r)
    apart : Apart w'
    lamps : LampsRight r w w'

  -- such an act keeps what holds between acts
  module _ (w w' : World) (r : ℕ) (inv : Inv w) (c : Change r w w') where
    -- a route other than r stays ready
    other_ready : (q : ℕ) → q ≢ r → Ready s w q → Ready s w' q
    other_ready q n g = still_ready w w' q (c.others q n) (λ i a o. ⊎_elim (λ x. x) (λ h. absurd (n (same_holder (g.whole.held i (omega arith) a) h))) (c.fresh _ o)) g

    -- a route other than r stays in its phase
    other_phase : (q : ℕ) → q ≢ r → Phase w q → Phase w' q
    other_phase q n (idle e h) = idle ((c.others q n).states ∙ e) (λ i a b. h i a ((c.others q n).gains _ b))
    other_phase q n (kept e l h) = kept ((c.others q n).states ∙ e) l (λ i a. (c.others q n).keeps _ (h i a))
    other_phase q n (ready g) = ready (other_ready q n g)
    other_phase q n (ridden k g) = let t = c.stays q k n g in ridden t.0 (subst (Rides s w' q) (sym t.1) (still_rides w w' q (c.others q n) _ g))
    other_phase q n (done g) = done (still_runs w w' q (c.others q n) _ g)

    -- a train that was there, on a route other than r, still rides it
    old_rides : (j k : ℕ) → 0 < length (train w' j) → train w' j ≡ train w k → (Rides s w r (train w k) → ⊥) → (q : ℕ) × Rides s w' q (train w' j)
    old_rides j k l e no-r =
        let g = inv.rides k (subst (λ t. 0 < length t) e l) in
        let f : g.0 ≢ r = λ e'. no-r (subst (λ q. Rides s w q (train w k)) e' g.1) in
        (g.0, subst (Rides s w' g.0) (sym e) (still_rides w w' g.0 (c.others g.0 f) _ g.1))

    -- a lamp that was green, not that of r, still starts a ready route
    old_lamps : (b : ℕ) → green w b ≡ true → (Ready s w r → block s r 0 ≢ b) → (q : ℕ) × (block s q 0 ≡ b) × Ready s w' q
    old_lamps b h no-r =
        let g = inv.lamps b h in
        let f : g.0 ≢ r = λ e. no-r (subst (Ready s w) e g.2) (subst (λ q. block s q 0 ≡ b) e g.1) in
        (g.0, g.1, other_ready g.0 f g.2)

    -- so all of it holds after the act
    changed : Inv w'
    changed = record {
      own = λ b q h. ⊎_elim (λ e. rw e (c.own b (rw (← e) h))) (λ n. inv.own b q ((c.others q n).gains b h)) (cases_eq q r);
      phase = λ q. ⊎_elim (λ e. rw e c.phase) (λ n. other_phase q n (inv.phase q)) (cases_eq q r);
      rides = λ j l. ⊎_elim (λ g. (r, g)) (λ o. old_rides j o.0 l o.1 o.2) (c.rides j l);
      apart = c.apart;
      lamps = λ b h. ⊎_elim (λ g. (r, g.0, g.1)) (λ o. old_lamps b o.0 o.1) (c.lamps b h);
    }

  -- where no train moves, blocks are occupied as before
  same_occupied : (w w' : World) (b : ℕ) → w'.as_ground.trains ≡ w.as_ground.trains → Occupied w b → Occupied w' b
  same_occupied w w' b e o =
      let f = ap (λ ts. get_or ts o.by []) (sym e) in
      record { by = o.by; at = o.at; within = subst (λ t. o.at < length t) f o.within; is = subst (λ t. under t o.at ≡ b) f o.is }

  -- an act that moves no train, on a route that no train is on
  record NoMovement (r : ℕ) (w w' : World) : Type 0 where
    trains : w'.as_ground.trains ≡ w.as_ground.trains
    others : (q : ℕ) → q ≢ r → Untouched q w w'
    phase : Phase w' r
    own : (b : ℕ) → holder w' b ≡ Some r → BlockOf s r b
    alone : (k : ℕ) → Rides s w r (train w k) → ⊥
    lamps : LampsRight r w w'

  -- such an act keeps what holds between acts
  without_movement : (w w' : World) (r : ℕ) → Inv w → NoMovement r w w' → Inv w'
  without_movement w w' r inv c = changed w w' r inv (record {
    others = c.others;
    phase = c.phase;
    own = c.own;
    rides = λ j l. inr (j, same j, c.alone j);
    stays = λ q k n g. (k, same k);
    fresh = λ b o. inl (same_occupied w' w b (sym c.trains) o);
    apart = λ j k x y a b e. inv.apart j k x y (subst (λ t. x < length t) (same j) a) (subst (λ t. y < length t) (same k) b) (ap (λ t. under t x) (sym (same j)) ∙ e ∙ ap (λ t. under t y) (same k));
    lamps = c.lamps;
  })
    where
      same : (j : ℕ) → train w' j ≡ train w j
      same j = ap (λ ts. get_or ts j []) c.trains

  -- the i-th stand of a train is in the i-th step of its route from the rear on
  pub rides_under : (w : World) (r : ℕ) (t : List Stand) (g : Rides s w r t) (i : ℕ) → i < length t → under t i ≡ block s r (g.rear + i)
  rides_under w r t g i l = ap (λ (x : Stand). x.block) (g.stands i l)

  -- the block of each stand of a train is reserved for its route
  pub rides_held : (w : World) (r : ℕ) (t : List Stand) → Rides s w r t → (i : ℕ) → i < length t → holder w (under t i) ≡ Some r
  rides_held w r t g i l = ap (holder w) (rides_under w r t g i l) ∙ g.runs.held (g.rear + i) (omega arith) (omega (arith, g.fits))

  -- train j after a movement was train i before it: it has the stands x if that was train k, else the stands it had
  abbrev pub ComesFrom : ℕ → List Stand → World → World → ℕ → ℕ → Type 0
  ComesFrom k x w w' j i = ((i ≡ k) × (train w' j ≡ x)) ⊎ ((i ≢ k) × (train w' j ≡ train w i))

  -- of the trains the one with the number k has become x, and all others are what they were
  pub record OneMoved (k : ℕ) (x : List Stand) (w w' : World) : Type 0 where
    pub from : ℕ → ℕ
    pub each : (j : ℕ) → ComesFrom k x w w' j (from j)
    pub distinct_from : (i j : ℕ) → from i ≡ from j → i ≡ j
    pub kept_from : (j : ℕ) → j ≢ k → (i : ℕ) × (from i ≡ j)

  -- a movement of train k, on route r, to the stands x
  record Movement (r k : ℕ) (x : List Stand) (w w' : World) : Type 0 where
    moved : OneMoved k x w w'
    others : (q : ℕ) → q ≢ r → Untouched q w w'
    phase : Phase w' r
    own : (b : ℕ) → holder w' b ≡ Some r → BlockOf s r b
    held : (y : ℕ) → y < length x → holder w (under x y) ≡ Some r
    new : 0 < length x → Rides s w' r x
    alone : (j : ℕ) → j ≢ k → Rides s w r (train w j) → ⊥
    mine : (q : ℕ) → Rides s w q (train w k) → q ≡ r
    lamps : LampsRight r w w'

  -- such a movement keeps what holds between acts
  module _ (w w' : World) (r k : ℕ) (x : List Stand) (inv : Inv w) (c : Movement r k x w w') where
    -- the moved train meets no other
    never_meet : (j y z : ℕ) → j ≢ k → y < length x → z < length (train w j) → under x y ≡ under (train w j) z → ⊥
    never_meet j y z n a b e =
        let g = inv.rides j (omega arith) in
        let same : g.0 ≡ r = same_holder (rides_held w g.0 (train w j) g.1 z b) (ap (holder w) (sym e) ∙ c.held y a) in
        c.alone j n (subst (λ q. Rides s w q (train w j)) same g.1)

    -- so trains are apart
    trains_apart : Apart w'
    trains_apart i j y z a b e = compare (c.moved.each i) (c.moved.each j)
      where
        compare : ComesFrom k x w w' i (c.moved.from i) → ComesFrom k x w w' j (c.moved.from j) → i ≡ j
        compare (inl p) (inl q) = c.moved.distinct_from i j (p.0 ∙ sym q.0)
        compare (inl p) (inr q) = absurd (never_meet _ y z q.0 (subst (λ t. y < length t) p.1 a) (subst (λ t. z < length t) q.1 b) (sym (ap (λ t. under t y) p.1) ∙ e ∙ ap (λ t. under t z) q.1))
        compare (inr p) (inl q) = absurd (never_meet _ z y p.0 (subst (λ t. z < length t) q.1 b) (subst (λ t. y < length t) p.1 a) (sym (ap (λ t. under t z) q.1) ∙ sym e ∙ ap (λ t. under t y) p.1))
        compare (inr p) (inr q) = c.moved.distinct_from i j (inv.apart _ _ y z (subst (λ t. y < length t) p.1 a) (subst (λ t. z < length t) q.1 b) (sym (ap (λ t. under t y) p.1) ∙ e ∙ ap (λ t. under t z) q.1))

    -- a block newly occupied is one held for r
    newly_occupied : (b : ℕ) → Occupied w' b → Occupied w b ⊎ (holder w b ≡ Some r)
    newly_occupied b o = ⊎_elim
        (λ p. inr (ap (holder w) (sym (sym (ap (λ t. under t o.at) p.1) ∙ o.is)) ∙ c.held o.at (subst (λ t. o.at < length t) p.1 o.within)))
        (λ p. inl (record { by = c.moved.from o.by; at = o.at; within = subst (λ t. o.at < length t) p.1 o.within; is = sym (ap (λ t. under t o.at) p.1) ∙ o.is }))
        (c.moved.each o.by)

    -- trains on other routes stay
    others_stay : (q j : ℕ) → q ≢ r → Rides s w q (train w j) → (i : ℕ) × (train w' i ≡ train w j)
    others_stay q j n g = ⊎_elim (λ e. absurd (n (c.mine q (subst (λ k. Rides s w q (train w k)) e g)))) other (cases_eq j k)
      where
        other : j ≢ k → (i : ℕ) × (train w' i ≡ train w j)
        other m =
            let i = c.moved.kept_from j m in
            ⊎_elim (λ p. absurd (m (sym i.1 ∙ p.0))) (λ p. (i.0, p.1 ∙ ap (train w) i.1)) (c.moved.each i.0)

    -- so all of it holds after the movement
    moved_on : Inv w'
    moved_on = changed w w' r inv (record {
      others = c.others;
      phase = c.phase;
      own = c.own;
      rides = λ j l. ⊎_elim (λ p. inl (subst (Rides s w' r) (sym p.1) (c.new (subst (λ t. 0 < length t) p.1 l)))) (λ p. inr (c.moved.from j, p.1, c.alone _ p.0)) (c.moved.each j);
      stays = others_stay;
      fresh = newly_occupied;
      apart = trains_apart;
      lamps = c.lamps;
    })

  -- two trains on one route are one
  pub one_rider : (w : World) → Inv w → (r j k : ℕ) → Rides s w r (train w j) → Rides s w r (train w k) → j ≡ k
  one_rider w inv r j k g h = inv.apart j k 0 0 g.some h.some (rides_under w r _ g 0 g.some ∙ ap (block s r) (ap (λ n. n + 0) rear) ∙ sym (rides_under w r _ h 0 h.some))
    where
      rear : g.rear ≡ h.rear
      rear = ⊎_elim
          (λ l. absurd (h.runs.gone g.rear l (omega (arith, g.fits, g.some)) (g.runs.held g.rear (omega arith) (omega (arith, g.fits, g.some)))))
          (λ l. ⊎_elim
          (λ m. absurd (g.runs.gone h.rear m (omega (arith, h.fits, h.some)) (h.runs.held h.rear (omega arith) (omega (arith, h.fits, h.some)))))
          (λ m. omega arith)
          (cases_lt h.rear g.rear))
          (cases_lt g.rear h.rear)

  -- what a train's route is, from a block that it stands on
  pub rider : (w : World) → Inv w → (b r : ℕ) → holder w b ≡ Some r → (o : Occupied w b) → Rides s w r (train w o.by)
  rider w inv b r h o =
      let g = inv.rides o.by (omega (arith, o.within)) in
      subst (λ q. Rides s w q (train w o.by)) (same_holder (rides_held w g.0 _ g.1 o.at o.within) (ap (holder w) o.is ∙ h)) g.1

  -- a train occupies the block of its rear step
  pub occupies : (w : World) (r k : ℕ) (g : Rides s w r (train w k)) → Occupied w (block s r g.rear)
  occupies w r k g = record { by = k; at = 0; within = g.some; is = rides_under w r _ g 0 g.some ∙ ap (block s r) (omega arith) }

  -- the rear of a train is within its route
  pub rear_in : (w : World) (r : ℕ) (t : List Stand) (g : Rides s w r t) → g.rear < s.len r
  rear_in w r t g = omega (arith, g.fits, g.some)

  -- a reserved route holds all its blocks
  pub if_reserved : (w : World) (r : ℕ) → state w r ≡ Reserved → Phase w r → (0 < s.len r) × ((i : ℕ) → i < s.len r → Held s w r i)
  if_reserved w r e (idle f h) = absurd (free_reserved f e)
  if_reserved w r e (kept f l h) = (l, h)
  if_reserved w r e (ready g) = absurd (reserved_formed e g.whole.is)
  if_reserved w r e (ridden k g) = absurd (reserved_formed e g.runs.is)
  if_reserved w r e (done g) = absurd (reserved_formed e g.is)

  -- a formed route that holds all its blocks, with no train on it, is ready
  pub if_formed : (w : World) (r : ℕ) → state w r ≡ Formed → 0 < s.len r → ((i : ℕ) → i < s.len r → Held s w r i) → ((i : ℕ) → i < s.len r → Occupied w (block s r i) → ⊥) → Phase w r → Ready s w r
  if_formed w r e l h o (idle f n) = absurd (free_formed f e)
  if_formed w r e l h o (kept f n m) = absurd (reserved_formed f e)
  if_formed w r e l h o (ready g) = g
  if_formed w r e l h o (ridden k g) = absurd (o g.rear (rear_in w r _ g) (occupies w r k g))
  if_formed w r e l h o (done g) = absurd (g.gone 0 l l (h 0 l))

  -- no route's ledger or points change
  all_as_before : (w w' : World) (q : ℕ) → w'.ledger ≡ w.ledger → ((b : ℕ) → lies w' b ≡ lies w b) → Untouched q w w'
  all_as_before w w' q e f = record {
    states = ap (λ (l : Ledger). l.state q) e;
    keeps = λ b h. ap (λ (l : Ledger). l.holder b) e ∙ h;
    gains = λ b h. sym (ap (λ (l : Ledger). l.holder b) e) ∙ h;
    lie = λ b h. f b;
  }

  -- the acts that move no train: reserving
  reserve_keeps : (w w' : World) (r : ℕ) → Inv w → Reserves s r w w' → Inv w'
  reserve_keeps w w' r inv a = without_movement w w' r inv (record {
    trains = ap (λ (g : Ground). g.trains) a.same;
    others = λ q n. record {
      states = ⊎_elim (λ e. absurd (n e)) (λ e. e) (a.becomes.else q);
      keeps = λ b h. ⊎_elim (λ k. absurd (none_some (ap (holder w) (sym k.is) ∙ a.unheld k.at k.within) h)) (λ e. e ∙ h) (a.holds.else b);
      gains = λ b h. ⊎_elim (λ k. absurd (n (same_holder h (ap (holder w') (sym k.is) ∙ a.holds.here k.at k.within)))) (λ e. sym e ∙ h) (a.holds.else b);
      lie = λ b h. ap (λ (g : Ground). g.lies b) a.same;
    };
    phase = kept a.becomes.here a.real a.holds.here;
    own = λ b h. ⊎_elim (λ k. k) (λ e. inv.own b r (sym e ∙ h)) (a.holds.else b);
    alone = λ k g. free_formed a.was g.runs.is;
    lamps = λ b h. inr (sym (ap (λ (g : Ground). g.green b) a.same) ∙ h, λ g. absurd (free_formed a.was g.whole.is));
  })

  -- a throw on a reserved route
  throw_keeps : (w w' : World) (r i : ℕ) → Inv w → Throws s r i w w' → Inv w'
  throw_keeps w w' r i inv a =
      let all = if_reserved w r a.was (inv.phase r) in
      without_movement w w' r inv (record {
        trains = a.trains;
        others = λ q n. record {
          states = states q;
          keeps = λ b h. holds b ∙ h;
          gains = λ b h. sym (holds b) ∙ h;
          lie = λ b h. ⊎_elim (λ e. absurd (n (same_holder h (ap (holder w) e ∙ all.1 i a.within)))) (λ e. e) (a.lie b);
        };
        phase = kept (states r ∙ a.was) all.0 (λ j l. holds _ ∙ all.1 j l);
        own = λ b h. inv.own b r (sym (holds b) ∙ h);
        alone = λ k g. reserved_formed a.was g.runs.is;
        lamps = λ b h. inr (sym (a.lamps b) ∙ h, λ g. absurd (reserved_formed a.was g.whole.is));
      })
    where
      states : (q : ℕ) → state w' q ≡ state w q
      states q = ap (λ (l : Ledger). l.state q) a.same

      holds : (b : ℕ) → holder w' b ≡ holder w b
      holds b = ap (λ (l : Ledger). l.holder b) a.same

  -- forming
  form_keeps : (w w' : World) (r : ℕ) → Inv w → Forms s r w w' → Inv w'
  form_keeps w w' r inv a =
      let all = if_reserved w r a.was (inv.phase r) in
      without_movement w w' r inv (record {
        trains = ap (λ (g : Ground). g.trains) a.same;
        others = λ q n. record {
          states = ⊎_elim (λ e. absurd (n e)) (λ e. e) (a.becomes.else q);
          keeps = λ b h. a.holds b ∙ h;
          gains = λ b h. sym (a.holds b) ∙ h;
          lie = λ b h. points b;
        };
        phase = ready (record {
          real = all.0;
          whole = record { is = a.becomes.here; held = λ i l m. a.holds _ ∙ all.1 i m; gone = λ i l. absurd (omega arith); set = λ i l m. subst (Suits (needs s r i)) (sym (points _)) (a.set i m) };
          empty = λ i l o. reserved_formed a.was (rider w inv _ r (all.1 i l) (same_occupied w' w _ (ap (λ (g : Ground). g.trains) (sym a.same)) o)).runs.is;
        });
        own = λ b h. inv.own b r (sym (a.holds b) ∙ h);
        alone = λ k g. reserved_formed a.was g.runs.is;
        lamps = λ b h. inr (sym (ap (λ (g : Ground). g.green b) a.same) ∙ h, λ g. absurd (reserved_formed a.was g.whole.is));
      })
    where
      points : (b : ℕ) → lies w' b ≡ lies w b
      points b = ap (λ (g : Ground). g.lies b) a.same

  -- a lamp told green
  open_keeps : (w w' : World) (r : ℕ) → Inv w → Opens s r w w' → Inv w'
  open_keeps w w' r inv a = without_movement w w' r inv (record {
    trains = a.trains;
    others = λ q n. all_as_before w w' q a.same a.lie;
    phase = ready now;
    own = λ b h. inv.own b r (sym (ap (λ (l : Ledger). l.holder b) a.same) ∙ h);
    alone = λ k g. a.empty g.rear (rear_in w r _ g) (occupies w r k g);
    lamps = λ b h. ⊎_elim (λ e. inl (sym e, now)) (λ n. inr (⊎_elim (λ e. absurd (n e)) (λ e. sym e ∙ h) (a.lamps b), λ g e. n (sym e))) (cases_eq b (block s r 0));
  })
    where
      now : Ready s w' r
      now = still_ready w w' r (all_as_before w w' r a.same a.lie)
          (λ i l o. same_occupied w' w _ (sym a.trains) o)
          (if_formed w r a.was a.real a.held a.empty (inv.phase r))

  -- cancelling
  cancel_keeps : (w w' : World) (r : ℕ) → Inv w → Cancels s r w w' → Inv w'
  cancel_keeps w w' r inv a = without_movement w w' r inv (record {
    trains = a.trains;
    others = λ q n. record {
      states = ⊎_elim (λ e. absurd (n e)) (λ e. e) (a.becomes.else q);
      keeps = λ b h. ⊎_elim (λ k. absurd (n (same_holder h (ap (holder w) (sym k.is) ∙ a.held k.at k.within)))) (λ e. e ∙ h) (a.holds.else b);
      gains = λ b h. ⊎_elim (λ k. absurd (none_some (ap (holder w') (sym k.is) ∙ a.holds.here k.at k.within) h)) (λ e. sym e ∙ h) (a.holds.else b);
      lie = λ b h. a.lie b;
    };
    phase = idle a.becomes.here (λ i l h. none_some (a.holds.here i l) h);
    own = λ b h. ⊎_elim (λ k. k) (λ e. inv.own b r (sym e ∙ h)) (a.holds.else b);
    alone = λ k g. a.empty g.rear (rear_in w r _ g) (occupies w r k g);
    lamps = λ b h. ⊎_elim
        (λ e. absurd (true_false h (ap (green w') e ∙ a.lamps.here)))
        (λ e. inr (sym e ∙ h, λ g f. true_false h (ap (green w') (sym f) ∙ a.lamps.here)))
        (a.lamps.else b);
  })

  -- closing a route that is done
  free_keeps : (w w' : World) (r : ℕ) → Inv w → Frees s r w w' → Inv w'
  free_keeps w w' r inv a = without_movement w w' r inv (record {
    trains = ap (λ (g : Ground). g.trains) a.same;
    others = λ q n. record {
      states = ⊎_elim (λ e. absurd (n e)) (λ e. e) (a.becomes.else q);
      keeps = λ b h. a.holds b ∙ h;
      gains = λ b h. sym (a.holds b) ∙ h;
      lie = λ b h. ap (λ (g : Ground). g.lies b) a.same;
    };
    phase = idle a.becomes.here (λ i l h. a.unheld i l (sym (a.holds _) ∙ h));
    own = λ b h. inv.own b r (sym (a.holds b) ∙ h);
    alone = λ k g. a.unheld g.rear (rear_in w r _ g) (g.runs.held g.rear (omega arith) (rear_in w r _ g));
    lamps = λ b h. inr (sym (ap (λ (g : Ground). g.green b) a.same) ∙ h, λ g. absurd (a.unheld 0 g.real (g.whole.held 0 (omega arith) g.real)));
  })

  -- the three ways in which the list of trains changes: a new train, the last in number
  pub pushed : (w w' : World) (x : List Stand) → w'.as_ground.trains ≡ w.as_ground.trains ++ (x ∷ []) → OneMoved (length w.as_ground.trains) x w w'
  pushed w w' x e = record {
    from = λ j. j;
    distinct_from = λ i j f. f;
    kept_from = λ j n. (j, refl);
    each = λ j. ⊎_elim
        (λ f. inl (f, at j ∙ get_or_push ts x [] j (sym f)))
        (λ n. inr (
          n,
          elim (cases_lt j (length ts)) [
            | inl l ↦ at j ∙ get_or_append_left ts (x ∷ []) [] j l
            | inr l ↦ at j ∙ get_or_past (ts ++ (x ∷ [])) j [] (rw length_push (omega arith)) ∙ sym (get_or_past ts j [] l)
          ],
        ))
        (cases_eq j (length ts));
  }
    where
      ts : List (List Stand)
      ts = w.as_ground.trains

      at : (j : ℕ) → train w' j ≡ get_or (ts ++ (x ∷ [])) j []
      at j = ap (λ us. get_or us j []) e

  -- one train has other stands
  pub placed : (w w' : World) (k : ℕ) (x : List Stand) → k < length w.as_ground.trains → w'.as_ground.trains ≡ set w.as_ground.trains k x → OneMoved k x w w'
  placed w w' k x l e = record {
    from = λ j. j;
    distinct_from = λ i j f. f;
    kept_from = λ j n. (j, refl);
    each = λ j. ⊎_elim
        (λ f. inl (f, at j ∙ rw f (get_or-set_same w.as_ground.trains k x [] l)))
        (λ n. inr (n, at j ∙ get_or-set_other w.as_ground.trains k j x [] n))
        (cases_eq j k);
  }
    where
      at : (j : ℕ) → train w' j ≡ get_or (set w.as_ground.trains k x) j []
      at j = ap (λ us. get_or us j []) e

  -- one train is gone, and those after it close up
  pub removed : (w w' : World) (k : ℕ) → k < length w.as_ground.trains → w'.as_ground.trains ≡ take k w.as_ground.trains ++ drop (suc k) w.as_ground.trains → OneMoved k [] w w'
  removed w w' k l e = record {
    from = λ j. (old_number j k).0;
    distinct_from = λ i j f. omega (arith, (old_number i k).1, (old_number j k).1);
    kept_from = λ j n. ⊎_elim (λ m. (j, omega (arith, (old_number j k).1))) (λ m. (j - 1, omega (arith, (old_number (j - 1) k).1))) (cases_lt j k);
    each = λ j. inr (
      omega (arith, (old_number j k).1),
      ⊎_elim
          (λ p. at j ∙ get_or_append_left (take k ts) (drop (suc k) ts) [] j (rw len p.0) ∙ get_or-take k ts j [] p.0 ∙ ap (λ i. get_or ts i []) (sym p.1))
          (λ p. at j ∙ get_or-append_right (take k ts) (drop (suc k) ts) k j [] len p.0 ∙ get_or-drop (suc k) ts (j - k) [] ∙ ap (λ i. get_or ts i []) (omega (arith, p.0, p.1)))
          (old_number j k).1,
    );
  }
    where
      ts : List (List Stand)
      ts = w.as_ground.trains

      len : length (take k ts) ≡ k
      len = length-take-le k ts (omega arith)

      at : (j : ℕ) → train w' j ≡ get_or (take k ts ++ drop (suc k) ts) j []
      at j = ap (λ us. get_or us j []) e

  -- block m of r, the first that r holds, is given up
  module _ (w w' : World) (r m : ℕ) (g : Runs s w r m) (l : m < s.len r) (b : ℕ) (e : b ≡ block s r m)
      (p : Put b None (holder w) (holder w')) (states : (q : ℕ) → state w' q ≡ state w q) (lie : (c : ℕ) → lies w' c ≡ lies w c) where
    -- it was held for r
    was_held : holder w b ≡ Some r
    was_held = ap (holder w) e ∙ g.held m (omega arith) l

    -- no other route is touched
    given_others : (q : ℕ) → q ≢ r → Untouched q w w'
    given_others q n = record {
      states = states q;
      keeps = λ c h. elim (p.else c) [ inl f ↦ absurd (n (same_holder h (ap (holder w) f ∙ was_held))) | inr f ↦ f ∙ h ];
      gains = λ c h. elim (p.else c) [ inl f ↦ absurd (none_some (ap (holder w') f ∙ p.here) h) | inr f ↦ sym f ∙ h ];
      lie = λ c h. lie c;
    }

    -- what r holds is still of r
    given_own : Inv w → (c : ℕ) → holder w' c ≡ Some r → BlockOf s r c
    given_own inv c h = elim (p.else c) [ inl f ↦ absurd (none_some (ap (holder w') f ∙ p.here) h) | inr f ↦ inv.own c r (sym f ∙ h) ]

    -- r runs from the next block on
    given_up : Sound s → Runs s w' r (suc m)
    given_up sound = record {
      is = states r ∙ g.is;
      held = λ i a b. elim (p.else (block s r i)) [
        | inl f ↦ absurd (omega (arith, sound.distinct r i m b l (f ∙ e)))
        | inr f ↦ f ∙ g.held i (omega arith) b
      ];
      gone = λ i a b h. elim (p.else (block s r i)) [
        | inl f ↦ none_some (ap (holder w') f ∙ p.here) h
        | inr f ↦ elim (cases_eq i m) [
          | inl f' ↦ none_some (ap (λ j. holder w' (block s r j)) f' ∙ ap (holder w') (sym e) ∙ p.here) h
          | inr n ↦ g.gone i (omega arith) b (sym f ∙ h)
        ]
      ];
      set = λ i a b. subst (Suits (needs s r i)) (sym (lie _)) (g.set i (omega arith) b);
    }

  -- from each stand of a train the way leads where its route has it
  pub rides_way : Sound s → (w : World) (r : ℕ) (t : List Stand) (g : Rides s w r t) (i : ℕ) → i < length t → Leads s w t i (s.step r (g.rear + i)).left
  rides_way sound w r t g i l =
      let in-r : g.rear + i < s.len r = omega (arith, g.fits) in
      ap (λ (x : Stand). s.way x.block (lies w x.block) x.entered) (g.stands i l) ∙ sound.leads r (g.rear + i) in-r _ (g.runs.set (g.rear + i) (omega arith) in-r)

  -- the acts that move a train; r is the route of the k-th
  module _ (sound : Sound s) (w w' : World) (inv : Inv w) where
    -- a train enters
    enter_keeps : (b e : ℕ) → Enters s b e w w' → Inv w'
    enter_keeps b e a = moved_on w w' r n (x ∷ []) inv (record {
      moved = pushed w w' (x ∷ []) a.trains;
      others = λ q m. all_as_before w w' q a.same a.lie;
      phase = ridden n (subst (Rides s w' r) (sym here) new);
      own = λ c h. inv.own c r (sym (ap (λ (l : Ledger). l.holder c) a.same) ∙ h);
      held = rides_held w r (x ∷ []) old;
      new = λ l. new;
      alone = λ j m h. g.2.empty h.rear (rear_in w r _ h) (occupies w r j h);
      mine = λ q h. absurd (omega (arith, h.some, ap length (get_or_past w.as_ground.trains n [] (omega arith))));
      lamps = λ c h. elim (a.lamps.else c) [
        | inl f ↦ absurd (true_false h (ap (green w') f ∙ a.lamps.here))
        | inr f ↦ inr (sym f ∙ h, λ _ f'. true_false h (ap (green w') (sym f' ∙ g.1) ∙ a.lamps.here))
      ];
    })
      where
        g : (r : ℕ) × (block s r 0 ≡ b) × Ready s w r
        g = inv.lamps b a.lit

        r : ℕ
        r = g.0

        n : ℕ
        n = length w.as_ground.trains

        x : Stand
        x = record { block = b; entered = e }

        is : x ≡ (s.step r 0).stand
        is = λ i. record {
          block = sym g.1 i;
          entered = same_holder a.at (ap s.gate (sym g.1) ∙ sound.begins r g.2.real) i;
        }

        old : Rides s w r (x ∷ [])
        old = record { rear = 0; runs = g.2.whole; some = omega arith; fits = omega (arith, g.2.real); stands = elim [ zero ↦ λ l. is | suc i ↦ λ l. absurd (omega arith) ] }

        new : Rides s w' r (x ∷ [])
        new = still_rides w w' r (all_as_before w w' r a.same a.lie) _ old

        here : train w' n ≡ x ∷ []
        here = ap (λ us. get_or us n []) a.trains ∙ get_or_push w.as_ground.trains (x ∷ []) [] n refl

    -- train k rides r
    module _ (k r : ℕ) (g : Rides s w r (train w k)) where
      -- no other train rides r
      rider_alone : (j : ℕ) → j ≢ k → Rides s w r (train w j) → ⊥
      rider_alone j n h = n (one_rider w inv r j k h g)

      -- it rides no other route
      rider_mine : (q : ℕ) → Rides s w q (train w k) → q ≡ r
      rider_mine q h = same_holder (rides_held w q _ h 0 h.some) (rides_held w r _ g 0 g.some)

      -- no lamp changes, and that of r is red
      rider_lamps : ((b : ℕ) → green w' b ≡ green w b) → LampsRight r w w'
      rider_lamps same b h = inr (sym (same b) ∙ h, λ f. absurd (f.empty g.rear (rear_in w r _ g) (occupies w r k g)))

      -- the way on leads to the end by which the route leaves
      rider_left : (i e : ℕ) → i < length (train w k) → Leads s w (train w k) i e → e ≡ (s.step r (g.rear + i)).left
      rider_left i e l h = same_holder h (rides_way sound w r _ g i l)

      -- and to the joint there
      rider_joint : (i e : ℕ) → i < length (train w k) → Leads s w (train w k) i e → s.joint (under (train w k) i) e ≡ s.joint (block s r (g.rear + i)) (s.step r (g.rear + i)).left
      rider_joint i e l h = ap₂ s.joint (rides_under w r _ g i l) (rider_left i e l h)

      -- its front goes on
      forward_keeps : (i e : ℕ) (c : Stand) → Forwards s k i e c w w' → Inv w'
      forward_keeps i e c a = moved_on w w' r k x inv (record {
        moved = placed w w' k x a.there a.trains;
        others = λ q m. all_as_before w w' q a.same a.lie;
        phase = ridden k (subst (Rides s w' r) (sym here) new);
        own = λ b h. inv.own b r (sym (ap (λ (l : Ledger). l.holder b) a.same) ∙ h);
        held = rides_held w r x old;
        new = λ l. new;
        alone = rider_alone;
        mine = rider_mine;
        lamps = rider_lamps a.lamps;
      })
        where
          t : List Stand
          t = train w k

          x : List Stand
          x = t ++ (c ∷ [])

          leads_to : s.joint (block s r (g.rear + i)) (s.step r (g.rear + i)).left ≡ Some c
          leads_to = sym (rider_joint i e (omega (arith, a.front)) a.leads) ∙ a.to

          next : (suc (g.rear + i) < s.len r) × (c ≡ (s.step r (suc (g.rear + i))).stand)
          next = elim (cases_lt (suc (g.rear + i)) (s.len r)) [
            | inl l ↦ (l, same_some leads_to (sound.joins r (g.rear + i) l))
            | inr l ↦ absurd (none_some (sound.ends r (g.rear + i) (omega (arith, l, g.fits, a.front))) leads_to)
          ]

          last : (j : ℕ) → j ≡ length t → get_or x j no_stand ≡ (s.step r (g.rear + j)).stand
          last j f = get_or_push t c no_stand j (sym f) ∙ next.1 ∙ ap (λ n. (s.step r n).stand) (omega (arith, f, a.front))

          old : Rides s w r x
          old = record {
            rear = g.rear;
            runs = g.runs;
            some = rw length_push (omega arith);
            fits = rw length_push (omega (arith, next.0, a.front));
            stands = λ j l. elim (cases_lt j (length t)) [
              | inl m ↦ get_or_append_left t (c ∷ []) no_stand j m ∙ g.stands j m
              | inr m ↦ last j (omega (arith, m, simp length_push at l))
            ];
          }

          new : Rides s w' r x
          new = still_rides w w' r (all_as_before w w' r a.same a.lie) _ old

          here : train w' k ≡ x
          here = ap (λ us. get_or us k []) a.trains ∙ get_or-set_same w.as_ground.trains k x [] a.there

      -- its rear clears a block
      clear_keeps : Clears s k w w' → Inv w'
      clear_keeps a = moved_on w w' r k x inv (record {
        moved = placed w w' k x a.there a.trains;
        others = given_others w w' r g.rear g.runs (rear_in w r _ g) _ first a.holds a.states a.lie;
        phase = ridden k (subst (Rides s w' r) (sym here) new);
        own = given_own w w' r g.rear g.runs (rear_in w r _ g) _ first a.holds a.states a.lie inv;
        held = λ y l. ap (λ (z : Stand). holder w z.block) (get_or-drop 1 t y no_stand) ∙ rides_held w r t g (1 + y) (less y l);
        new = λ l. new;
        alone = rider_alone;
        mine = rider_mine;
        lamps = rider_lamps a.lamps;
      })
        where
          t : List Stand
          t = train w k

          x : List Stand
          x = drop 1 t

          less : (y : ℕ) → y < length x → 1 + y < length t
          less y l = omega (arith, simp length-drop at l)

          first : under t 0 ≡ block s r g.rear
          first = rides_under w r _ g 0 g.some ∙ ap (block s r) (omega arith)

          new : Rides s w' r x
          new = record {
            rear = suc g.rear;
            runs = given_up w w' r g.rear g.runs (rear_in w r _ g) _ first a.holds a.states a.lie sound;
            some = rw length-drop (omega (arith, a.long));
            fits = rw length-drop (omega (arith, a.long, g.fits));
            stands = λ i l. get_or-drop 1 t i no_stand ∙ g.stands (1 + i) (less i l) ∙ ap (λ n. (s.step r n).stand) (omega arith);
          }

          here : train w' k ≡ x
          here = ap (λ us. get_or us k []) a.trains ∙ get_or-set_same w.as_ground.trains k x [] a.there

      -- it leaves the track
      leave_keeps : (e : ℕ) → Leaves s k e w w' → Inv w'
      leave_keeps e a = moved_on w w' r k [] inv (record {
        moved = removed w w' k a.there a.trains;
        others = given_others w w' r g.rear g.runs (rear_in w r _ g) _ first a.holds a.states a.lie;
        phase = done (subst (Runs s w' r) over (given_up w w' r g.rear g.runs (rear_in w r _ g) _ first a.holds a.states a.lie sound));
        own = given_own w w' r g.rear g.runs (rear_in w r _ g) _ first a.holds a.states a.lie inv;
        held = λ y l. absurd (omega arith);
        new = λ l. absurd (omega arith);
        alone = rider_alone;
        mine = rider_mine;
        lamps = rider_lamps a.lamps;
      })
        where
          first : under (train w k) 0 ≡ block s r g.rear
          first = rides_under w r _ g 0 g.some ∙ ap (block s r) (omega arith)

          over : suc g.rear ≡ s.len r
          over = elim (cases_lt (suc (g.rear + 0)) (s.len r)) [
            | inl l ↦ absurd (none_some (sym (rider_joint 0 e g.some a.leads) ∙ a.out) (sound.joins r (g.rear + 0) l))
            | inr l ↦ omega (arith, l, g.fits, g.some)
          ]

  -- every act keeps what holds between acts
  pub keeps : Sound s → (w w' : World) → Inv w → Act s w w' → Inv w'
  keeps sound w w' inv (reserve r a) = reserve_keeps w w' r inv a
  keeps sound w w' inv (throw r i a) = throw_keeps w w' r i inv a
  keeps sound w w' inv (form r a) = form_keeps w w' r inv a
  keeps sound w w' inv (open_lamp r a) = open_keeps w w' r inv a
  keeps sound w w' inv (cancel r a) = cancel_keeps w w' r inv a
  keeps sound w w' inv (let_free r a) = free_keeps w w' r inv a
  keeps sound w w' inv (enter b e a) = enter_keeps sound w w' inv b e a
  keeps sound w w' inv (forward k i e c a) = let g = inv.rides k (omega (arith, a.front)) in forward_keeps sound w w' inv k g.0 g.1 i e c a
  keeps sound w w' inv (clear k a) = let g = inv.rides k (omega (arith, a.long)) in clear_keeps sound w w' inv k g.0 g.1 a
  keeps sound w w' inv (leave k e a) = let g = inv.rides k (omega (arith, a.one)) in leave_keeps sound w w' inv k g.0 g.1 e a

  -- all of it holds at the start
  pub starts : (w : World) → Start w → Inv w
  starts w a = record {
    own = λ b r h. absurd (none_some (a.unheld b) h);
    phase = λ r. idle (a.idle r) (λ i l h. none_some (a.unheld _) h);
    rides = λ k l. absurd (none k l);
    apart = λ j k x y l. absurd (none j (omega arith));
    lamps = λ b h. absurd (true_false h (a.dark b));
  }
    where
      none : (k : ℕ) → 0 < length (train w k) → ⊥
      none k l = omega (arith, l, ap (λ ts. length (get_or ts k [])) a.trains)

  -- a block that is held for a route is let go in time: the route can be cancelled, or a train is coming
  pub let_goes : (w : World) → Inv w → (r i : ℕ) → i < s.len r → Held s w r i → Phase w r → Cancellable s w r ⊎ Coming s w r i
  let_goes w inv r i l h (idle f n) = absurd (n i l h)
  let_goes w inv r i l h (kept f m a) = inl (record { made = λ e. free_reserved e f; held = a; empty = λ j n o. reserved_formed f (rider w inv _ r (a j n) o).runs.is })
  let_goes w inv r i l h (ready g) = inl (record { made = λ e. free_formed e g.whole.is; held = λ j. g.whole.held j (omega arith); empty = g.empty })
  let_goes w inv r i l h (ridden k g) = inr (record { by = k; on = g; before = elim (cases_lt i g.rear) [ inl m ↦ absurd (g.runs.gone i m l h) | inr m ↦ m ] })
  let_goes w inv r i l h (done g) = absurd (g.gone i l l h)

-- In which blocks trains stand after a movement.
use Rattle.std.proofs.Common.{◌≡◌, ℕ, zero, suc, ◌+◌, ◌<◌, ◌≢◌, ◌⊎◌, List, [], ◌∷◌, ◌++◌, length, get_or, drop, sym, refl, ap, ◌∙◌, subst, inl, inr, arith}
use Rattle.std.proofs.lemmas.List.{get_or_push, length_push, get_or_append_left, get_or-set_same, get_or-drop, length-drop, get_or_past}
use Rattle.std.proofs.lemmas.Bool.{cases_eq, cases_lt}
use Rattle.trackside.specs.declared.answers.Stand.{Stand}
use Rattle.trackside.specs.Ground.{Ground, no_stand, train}
use Rattle.trackside.specs.Laws.{Enters, Forwards, Shortens, Leaves, Clears}
use Rattle.interlocking.specs.Ledger.{Ledger}
use Rattle.interlocking.specs.Trains.{StandsIn}
use Rattle.interlocking.proofs.Track.{Layout, Sound, under}
use Rattle.interlocking.proofs.Argument.{Inv, OneMoved, pushed, placed, removed, rides_under}
use Rattle.interlocking.proofs.LawsToActs.{world}
use Rattle.interlocking.proofs.Agreement.{InBlock}

-- a train that is there has a number below that of the trains
pub numbered : (g : Ground) (k i : ℕ) → i < length (train g k) → k < length g.trains
numbered g k i n = elim (cases_lt k (length g.trains)) [
  | inl m ↦ m
  | inr m ↦ absurd (omega (arith, n, ap length (get_or_past g.trains k [] m)))
]

-- the ground before a movement and after it; the ledger does not matter
module _ (s : Layout) (g h : Ground) (l : Ledger) where
  -- of the trains the k-th has become x
  module _ (k : ℕ) (x : List Stand) (o : OneMoved s k x (world g l) (world h l)) where
    -- a train that is in block b now is the moved one, or another, which was there before
    now_in : (b : ℕ) → InBlock h b → ((y : ℕ) × (y < length x) × (under x y ≡ b)) ⊎ ((j : ℕ) × (j ≢ k) × StandsIn g j b)
    now_in b q = elim (o.each q.0) [
      | inl f ↦ inl (q.1.at, subst (λ t. q.1.at < length t) f.1 q.1.within, ap (λ t. under t q.1.at) (sym f.1) ∙ q.1.is)
      | inr f ↦ inr (o.from q.0, f.0, record { at = q.1.at; within = subst (λ t. q.1.at < length t) f.1 q.1.within; is = ap (λ t. under t q.1.at) (sym f.1) ∙ q.1.is })
    ]

    -- every other train is where it was
    still_in : (b j : ℕ) → j ≢ k → StandsIn g j b → InBlock h b
    still_in b j n q = let i = o.kept_from j n in elim (o.each i.0) [
      | inl f ↦ absurd (n (sym i.1 ∙ f.0))
      | inr f ↦ let e : train h i.0 ≡ train g j = f.1 ∙ ap (train g) i.1 in (
        i.0,
        record { at = q.at; within = subst (λ t. q.at < length t) (sym e) q.within; is = ap (λ t. under t q.at) e ∙ q.is },
      )
    ]

    -- the moved one is where it has come to
    there_now : (b y : ℕ) → train h k ≡ x → y < length x → under x y ≡ b → InBlock h b
    there_now b y e n is = (k, record { at = y; within = subst (λ t. y < length t) (sym e) n; is = ap (λ t. under t y) e ∙ is })

  -- a block that was reached: a train is in it, and in all other blocks as before
  pub record Reached (b : ℕ) : Type 0 where
    pub here : InBlock h b
    pub still : (c : ℕ) → InBlock g c → InBlock h c
    pub else : (c : ℕ) → InBlock h c → (c ≡ b) ⊎ InBlock g c

  -- a block that was cleared: no train is in it, and in all other blocks as before
  pub record Cleared (b : ℕ) : Type 0 where
    pub none : InBlock h b → ⊥
    pub still : (c : ℕ) → c ≢ b → InBlock g c → InBlock h c
    pub else : (c : ℕ) → InBlock h c → InBlock g c

  -- a train that enters reaches one block
  pub entered_in : (k b : ℕ) → Enters g k b h → Reached b
  entered_in k b m = record {
    here = there_now n x o b 0 is (omega arith) refl;
    still = λ c q. still_in n x o c q.0 (λ e. omega (arith, e, numbered g q.0 q.1.at q.1.within)) q.1;
    else = λ c q. elim (now_in n x o c q) [
      | inl f ↦ inl (first f.0 f.1 f.2)
      | inr f ↦ inr (f.0, f.2)
    ];
  }
    where
      n : ℕ
      n = length g.trains

      x : List Stand
      x = record { block = b; entered = m.end } ∷ []

      o : OneMoved s n x (world g l) (world h l)
      o = pushed s (world g l) (world h l) x m.trains

      is : train h n ≡ x
      is = ap (λ us. get_or us n []) m.trains ∙ get_or_push g.trains x [] n refl

      first : {c : ℕ} (y : ℕ) → y < length x → under x y ≡ c → c ≡ b
      first zero u e = sym e
      first (suc y) u e = absurd (omega arith)

  -- so does one whose front goes on
  pub forwarded_in : (k b : ℕ) → Forwards g k b h → Reached b
  forwarded_in k b m = record {
    here = there_now k x o b (length t) is (rw length_push (omega arith)) (ap (λ (z : Stand). z.block) (get_or_push t c no_stand (length t) refl));
    still = λ d q. elim (cases_eq q.0 k) [
      | inl e ↦ let f : q.1.at < length t = subst (λ j. q.1.at < length (train g j)) e q.1.within in there_now k x o d q.1.at is (rw length_push (omega arith)) (ap (λ (z : Stand). z.block) (get_or_append_left t (c ∷ []) no_stand q.1.at f) ∙ ap (λ j. under (train g j) q.1.at) (sym e) ∙ q.1.is)
      | inr n ↦ still_in k x o d q.0 n q.1
    ];
    else = λ d q. elim (now_in k x o d q) [
      | inl f ↦ elim (cases_lt f.0 (length t)) [
        | inl u ↦ inr (k, record { at = f.0; within = u; is = ap (λ (z : Stand). z.block) (sym (get_or_append_left t (c ∷ []) no_stand f.0 u)) ∙ f.2 })
        | inr u ↦ inl (sym f.2 ∙ ap (λ (z : Stand). z.block) (get_or_push t c no_stand f.0 (omega (arith, u, simp length_push at f.1))))
      ]
      | inr f ↦ inr (f.0, f.2)
    ];
  }
    where
      t : List Stand
      t = train g k

      c : Stand
      c = record { block = b; entered = m.entered }

      x : List Stand
      x = t ++ (c ∷ [])

      o : OneMoved s k x (world g l) (world h l)
      o = placed s (world g l) (world h l) k x m.there m.trains

      is : train h k ≡ x
      is = ap (λ us. get_or us k []) m.trains ∙ get_or-set_same g.trains k x [] m.there

  -- no block is twice under one train
  stands_once : Sound s → Inv s (world g l) → (k y z : ℕ) → y < length (train g k) → z < length (train g k) → under (train g k) y ≡ under (train g k) z → y ≡ z
  stands_once sound inv k y z a b e =
      let r = inv.rides k (omega arith) in
      omega (arith, sound.distinct r.0 (r.1.rear + y) (r.1.rear + z) (omega (arith, r.1.fits)) (omega (arith, r.1.fits)) (sym (rides_under s (world g l) r.0 _ r.1 y a) ∙ e ∙ rides_under s (world g l) r.0 _ r.1 z b))

  -- a block that the rear of train k clears
  module _ (sound : Sound s) (inv : Inv s (world g l)) (k b : ℕ) (some : 0 < length (train g k)) (rear : under (train g k) 0 ≡ b) where
    -- no other train is in it
    rear_alone : (j : ℕ) → j ≢ k → StandsIn g j b → ⊥
    rear_alone j n q = n (inv.apart j k q.at 0 q.within some (q.is ∙ sym rear))

    -- a train that stands in more blocks clears that of its rear
    shortened_in : k < length g.trains → Shortens g k h → Cleared b
    shortened_in there m = record {
      none = λ q. elim (now_in k x o b q) [
        | inl f ↦ absurd (omega (arith, stands_once sound inv k (1 + f.0) 0 (less f.0 f.1) some (on f.0 ∙ f.2 ∙ sym rear)))
        | inr f ↦ rear_alone f.0 f.1 f.2
      ];
      still = λ c n q. elim (cases_eq q.0 k) [
        | inl e ↦ mine c n q.1.at (subst (λ j. q.1.at < length (train g j)) e q.1.within) (ap (λ j. under (train g j) q.1.at) (sym e) ∙ q.1.is)
        | inr d ↦ still_in k x o c q.0 d q.1
      ];
      else = λ c q. elim (now_in k x o c q) [
        | inl f ↦ (k, record { at = 1 + f.0; within = less f.0 f.1; is = on f.0 ∙ f.2 })
        | inr f ↦ (f.0, f.2)
      ];
    }
      where
        x : List Stand
        x = drop 1 (train g k)

        o : OneMoved s k x (world g l) (world h l)
        o = placed s (world g l) (world h l) k x there m.trains

        is : train h k ≡ x
        is = ap (λ us. get_or us k []) m.trains ∙ get_or-set_same g.trains k x [] there

        less : (y : ℕ) → y < length x → 1 + y < length (train g k)
        less y u = omega (arith, simp length-drop at u)

        on : (y : ℕ) → under (train g k) (1 + y) ≡ under x y
        on y = ap (λ (z : Stand). z.block) (sym (get_or-drop 1 (train g k) y no_stand))

        mine : (c : ℕ) → c ≢ b → (z : ℕ) → z < length (train g k) → under (train g k) z ≡ c → InBlock h c
        mine c n zero u e = absurd (n (sym e ∙ rear))
        mine c n (suc z) u e = there_now k x o c z is (rw length-drop (omega arith)) (sym (on z) ∙ ap (under (train g k)) (let f : 1 + z ≡ suc z = omega arith in f) ∙ e)

    -- so does a train that leaves the track
    left_in : k < length g.trains → Leaves g k h → Cleared b
    left_in there m = record {
      none = λ q. elim (now_in k [] o b q) [
        | inl f ↦ absurd (omega (arith, f.1))
        | inr f ↦ rear_alone f.0 f.1 f.2
      ];
      still = λ c n q. elim (cases_eq q.0 k) [
        | inl e ↦ absurd (n (only c q.1.at (subst (λ j. q.1.at < length (train g j)) e q.1.within) (ap (λ j. under (train g j) q.1.at) (sym e) ∙ q.1.is)))
        | inr d ↦ still_in k [] o c q.0 d q.1
      ];
      else = λ c q. elim (now_in k [] o c q) [
        | inl f ↦ absurd (omega (arith, f.1))
        | inr f ↦ (f.0, f.2)
      ];
    }
      where
        o : OneMoved s k [] (world g l) (world h l)
        o = removed s (world g l) (world h l) k there m.trains

        only : (c z : ℕ) → z < length (train g k) → under (train g k) z ≡ c → c ≡ b
        only c zero u e = sym e ∙ rear
        only c (suc z) u e = absurd (omega (arith, m.short))

  -- a clearance, in either way
  pub cleared_in : Sound s → Inv s (world g l) → (k b : ℕ) → 0 < length (train g k) → Clears g k b h → Cleared b
  cleared_in sound inv k b some m = elim m.how [
    | inl a ↦ shortened_in sound inv k b some m.rear m.there a
    | inr a ↦ left_in sound inv k b some m.rear m.there a
  ]

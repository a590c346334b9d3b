-- What each call makes of a line, in the words of its contract. Assumes nothing.
use Rattle.std.proofs.Common.{◌≡◌, ℕ, ◌+◌, ◌-◌, ◌<◌, ◌≤◌, min, true, false, cond, ltb, List, [], ◌∷◌, ◌++◌, length, get_or, set, Some, Ok, Err, Option, Result, sym, ap, ◌∙◌, arith}
use Rattle.std.proofs.lemmas.Bool.{lt-ltb, le-ltb}
use Rattle.line.specs.Rings.{in_ring, back_of, front_of}
use Rattle.line.specs.Lines.{waiting, room_of, joined_on, served, slots_after_put, first_after_take}
use Rattle.line.specs.declared.Line.{Line}
use Rattle.line.specs.declared.refusal.Full.{Full}
use Rattle.line.specs.declared.refusal.Full.TheVariants.{NoRoom}
use Rattle.line.proofs.Places.{length_in_ring, put_at, take_at}

module _ {T : Type 0} (l : Line T) where
  pub long : length (waiting l) ≡ min l.count (room_of l)
  long = length_in_ring l.slots.now l.first l.count

  -- as many wait as are counted
  pub counted : length (waiting l) ≡ l.count
  counted = omega (arith, long, l.within.1)

  has_room : l.count < room_of l → true ≡ ltb (length (waiting l)) (room_of l)
  has_room h = sym (lt-ltb _ _ (omega (arith, counted)))

  is_full : room_of l ≤ l.count → false ≡ ltb (length (waiting l)) (room_of l)
  is_full h = sym (le-ltb _ _ (omega (arith, counted)))

  -- an item is put at the place i
  module _ (i : ℕ) (x : T) (h : l.count < room_of l) (e : i ≡ back_of (room_of l) l.first l.count) where
    pub joins : ◌≡◌ {A = Result Unit Full × List T} (Ok tt, in_ring (set l.slots.now i x) l.first (l.count + 1)) (joined_on (room_of l) (waiting l) x)
    joins =
        ap (λ w. (Ok tt, w)) (put_at l.slots.now l.first l.count i x l.within.0 h e)
        ∙ ap (λ b. cond b (Ok tt, waiting l ++ x ∷ []) (Err NoRoom, waiting l)) (has_room h)

    pub stores : set l.slots.now i x ≡ slots_after_put l x
    stores =
        ap (λ j. set l.slots.now j x) (e ∙ ap (λ j. back_of (room_of l) l.first j) (sym counted))
        ∙ ap (λ b. cond b (set l.slots.now (back_of (room_of l) l.first (length (waiting l))) x) l.slots.now) (has_room h)

  -- an item is refused
  module _ (x : T) (h : room_of l ≤ l.count) where
    pub is_refused : ◌≡◌ {A = Result Unit Full × List T} (Err NoRoom, waiting l) (joined_on (room_of l) (waiting l) x)
    is_refused = ap (λ b. cond b (Ok tt, waiting l ++ x ∷ []) (Err NoRoom, waiting l)) (is_full h)

    pub stores_none : l.slots.now ≡ slots_after_put l x
    stores_none = ap (λ b. cond b (set l.slots.now (back_of (room_of l) l.first (length (waiting l))) x) l.slots.now) (is_full h)

  -- the oldest is served from the place i
  module _ (i : ℕ) (h : 0 < l.count) (e : i ≡ front_of (room_of l) l.first) where
    pub serves : (d : T) → ◌≡◌ {A = Option T × List T} (Some (get_or l.slots.now i d), in_ring l.slots.now (i + 1) (l.count - 1)) (served (waiting l))
    serves d = sym (ap (λ w. served w) (take_at l.slots.now l.first l.count i d h l.within.1 e))

    pub goes_on : i + 1 ≡ first_after_take l
    goes_on = ap (λ j. j + 1) e ∙ ap (λ b. cond b (front_of (room_of l) l.first + 1) l.first) (sym (lt-ltb 0 _ (omega (arith, counted))))

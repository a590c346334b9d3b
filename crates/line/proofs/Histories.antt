-- First come, first served, over any uses of a line. Assumes nothing.
use Rattle.std.proofs.Common.{◌≡◌, ◌≤◌, Bool, true, false, cond, ltb, List, [], ◌∷◌, ◌++◌, length, Some, None, Ok, Err, Option, Result, sym, ap, ◌∙◌, arith}
use Rattle.std.proofs.lemmas.List.{append_assoc, append-nil}
use Rattle.line.specs.Lines.{waiting, room_of, served}
use Rattle.line.specs.Orders.{Use, came, left, accepted, taken, Led, FirstComeFirstServed}
use Rattle.line.specs.declared.Line.{Line}
use Rattle.line.specs.declared.refusal.Full.{Full}
use Rattle.line.specs.declared.refusal.Full.TheVariants.{NoRoom}
use Rattle.line.proofs.Steps.{long}

module _ {T : Type 0} where
  -- one who comes is counted among those yet to join, and after the call among those who wait: at the same place, or, refused, in neither
  join_step : (b : Bool) (w v : List T) (x : T) (r : Result Unit Full) (us : List (Use T)) → ◌≡◌ {A = Result Unit Full × List T} (r, v) (cond b (Ok tt, w ++ x ∷ []) (Err NoRoom, w)) → w ++ accepted (came x r ∷ us) ≡ v ++ accepted us
  join_step true w v x r us p =
      let a : r ≡ Ok tt = ap (λ (q : Result Unit Full × List T). q.0) p in
      let e : v ≡ w ++ x ∷ [] = ap (λ (q : Result Unit Full × List T). q.1) p in
      ap (λ q. w ++ accepted (came x q ∷ us)) a ∙ sym (append_assoc w (x ∷ []) (accepted us)) ∙ ap (λ l. l ++ accepted us) (sym e)
  join_step false w v x r us p =
      let a : r ≡ Err NoRoom = ap (λ (q : Result Unit Full × List T). q.0) p in
      let e : v ≡ w = ap (λ (q : Result Unit Full × List T). q.1) p in
      ap (λ q. w ++ accepted (came x q ∷ us)) a ∙ ap (λ l. l ++ accepted us) (sym e)

  -- who is served was the first of those who waited
  serve_step : (w v : List T) (o : Option T) (us : List (Use T)) (z : List T) → ◌≡◌ {A = Option T × List T} (o, v) (served w) → v ++ accepted us ≡ taken us ++ z → w ++ accepted us ≡ taken (left o ∷ us) ++ z
  serve_step [] v o us z p ih =
      let a : o ≡ None = ap (λ (q : Option T × List T). q.0) p in
      let e : v ≡ [] = ap (λ (q : Option T × List T). q.1) p in
      ap (λ l. l ++ accepted us) (sym e) ∙ ih ∙ ap (λ q. taken (left q ∷ us) ++ z) (sym a)
  serve_step (x ∷ xs) v o us z p ih =
      let a : o ≡ Some x = ap (λ (q : Option T × List T). q.0) p in
      let e : v ≡ xs = ap (λ (q : Option T × List T). q.1) p in
      ap (λ l. x ∷ (l ++ accepted us)) (sym e) ∙ ap (λ l. x ∷ l) ih ∙ ap (λ q. taken (left q ∷ us) ++ z) (sym a)

  in_order : (us : List (Use T)) (l m : Line T) → Led l us m → waiting l ++ accepted us ≡ taken us ++ waiting m
  in_order [] l m h = append-nil (waiting l) ∙ ap (λ k. waiting k) h
  in_order (came x r ∷ us) l m h =
      join_step (ltb (length (waiting l)) (room_of l)) (waiting l) (waiting h.0) x r us h.1 ∙ in_order us h.0 m h.3
  in_order (left o ∷ us) l m h = serve_step (waiting l) (waiting h.0) o us (waiting m) h.1 (in_order us h.0 m h.3)

  same_room : (us : List (Use T)) (l m : Line T) → Led l us m → room_of m ≡ room_of l
  same_room [] l m h = ap (λ k. room_of k) (sym h)
  same_room (came x r ∷ us) l m h = same_room us h.0 m h.3 ∙ h.2
  same_room (left o ∷ us) l m h = same_room us h.0 m h.3 ∙ h.2

  within : (m : Line T) → length (waiting m) ≤ room_of m
  within m = omega (arith, long m)

  pub first_come_first_served : (l : Line T) → waiting l ≡ [] → FirstComeFirstServed l
  first_come_first_served l e us m h = (ap (λ w. w ++ accepted us) (sym e) ∙ in_order us l m h, omega (arith, within m, same_room us l m h))

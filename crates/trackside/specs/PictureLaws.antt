-- A picture keeps the laws: its ground is well made, and it never changes. Assumes nothing.
use Rattle.std.specs.Prelude.{◌≡◌, ℕ, ◌≤◌, List, length, Some, None, Option, ◌≢◌, slice_index_or, refl}
use Rattle.std.proofs.Common.{ap, inr, arith}
use Rattle.std.proofs.lemmas.Option.{slice_get-get_or, slice_get_past}
use Rattle.std.specs.List.{slice_get}
use Rattle.network.specs.declared.track.Kind.{Kind}
use Rattle.network.specs.declared.track.Kind.TheVariants.{Point}
use Rattle.network.specs.declared.track.Position.TheVariants.{Left}
use Rattle.network.specs.declared.track.Joint.TheVariants.{Outer}
use Rattle.network.specs.declared.track.Block.TheVariants.{Plain as PlainBlock}
use Rattle.network.specs.Track.{kind_of, ends_of}
use Rattle.network.proofs.BlockRules.{same_some}
use Rattle.trackside.specs.declared.answers.Lamp.TheVariants.{Red}
use Rattle.trackside.specs.declared.picture.Glimpse.{Glimpse}
use Rattle.table.proofs.Sizes.{few_items}
use Rattle.trackside.specs.Ground.{ends_count, WellMade}
use Rattle.trackside.specs.Laws.{Lawful}
use Rattle.trackside.specs.Pictures.{glimpses_of, kind_seen, joint_seen, lies_seen, lamp_seen, light_seen, occupied_seen, seen_ground, picture_ground}
use Rattle.trackside.specs.Plants.{joint_or}
use Rattle.trackside.specs.Sights.{ends_many, green_lamp, only_points}

no_glimpse : Glimpse
no_glimpse = record { block = PlainBlock Outer Outer; position = Left; lamp = Red; occupied = mathlib.Core.Bool.false }

no_end_seen : (o : Option Glimpse) (e : ℕ) (k : Kind) → kind_seen o ≡ Some k → ends_count k ≤ e → joint_seen o e ≡ Outer
no_end_seen None e k h l = refl
no_end_seen (Some x) e k h l = ap joint_or (slice_get_past (ends_of x.block) e (omega (arith, ends_many x.block, l, ap ends_count (same_some refl h))))

points_seen : (o : Option Glimpse) → (kind_seen o ≢ Some Point) → lies_seen o ≡ Left
points_seen None n = refl
points_seen (Some x) n = only_points (Some (kind_of x.block)) x.position n

seen_made : (xs : List Glimpse) → length xs ≤ 64 → WellMade 64 (seen_ground xs)
seen_made xs f = record {
  carried = f;
  few = f;
  known = λ b h. (kind_of (slice_index_or xs b no_glimpse).block, ap kind_seen (slice_get-get_or xs b no_glimpse h));
  unknown = λ b h. ap kind_seen (slice_get_past xs b h);
  unjoined = λ b e h. ap (λ o. joint_seen o e) (slice_get_past xs b h);
  no_end = λ b e k h l. no_end_seen (slice_get xs b) e k h l;
  points = λ b n. points_seen (slice_get xs b) n;
  lamps = λ b h. green_lamp (lamp_seen (slice_get xs b)) (light_seen (slice_get xs b)) h;
  some_stand = λ k h. absurd (omega arith);
  stands = λ k i h. absurd (omega arith);
  noticed = λ k i h. absurd (omega arith);
  nowhere = λ b h. ap occupied_seen (slice_get_past xs b h);
}

pub picture_lawful : Lawful 64 picture_ground (λ s b p a t. ⊥) (λ s b l a t. ⊥) (λ s m t. ⊥)
picture_lawful = record {
  made = λ p. seen_made (glimpses_of p) (few_items p.glimpses);
  live = λ p. inr (record { trains = refl; thrown = λ b q a t h. h; lit = λ b l a t h. h; moved = λ m t h. h });
  throwing = λ s t b p a h. absurd h;
  lighting = λ s t b l a h. absurd h;
  moving = λ s t m h. absurd h;
}

-- Worked cases of the frame link, on the junction. Assumes nothing.
use Rattle.std.specs.Prelude.{◌≡◌, ℕ, Bool, true, false, cond, List, [], ◌∷◌, map, Ok, Err, codes, Result}
use Rattle.network.specs.declared.track.Block.{Block}
use Rattle.network.specs.Judge.{Plan}
use Rattle.trackside.specs.declared.answers.Lamp.TheVariants.{Green}
use Rattle.trackside.specs.declared.answers.Fault.{Fault}
use Rattle.trackside.specs.declared.answers.Moved.{Moved}
use Rattle.trackside.specs.declared.answers.Moved.TheVariants.{Enter}
use Rattle.framelink.specs.Views.{View, new_view, lit_by, moved_by}
use Rattle.reader.specs.declared.refusal.Refusal.{Refusal}
use Rattle.reader.specs.Reads.{read}
use Rattle.cases.specs.Sheets.{junction}

abbrev pub blocks_in : Result Plan Refusal → List Block
blocks_in (Ok p) = p.blocks
blocks_in (Err e) = []

-- bytes that are heard at the junction, whether the lamp of block 0 is green, what the first move answers, and where the next frame lies
pub record Heard : Type 0 where
  pub bytes : List ℕ
  pub green : Bool
  pub answer : Result Moved Fault
  pub next : ℕ

abbrev pub all_red : List ℕ → View
all_red bytes = new_view (blocks_in (read (junction (codes "plain 1.1 -") (codes "route 0 1 2")))) bytes

abbrev pub link_of : Heard → View
link_of h = cond h.green (lit_by (all_red h.bytes) 0 Green).1 (all_red h.bytes)

abbrev pub fault : ℕ → ℕ → Result Moved Fault
fault n p = Err (record { number = n; place = p })

-- a train enters past a green lamp and not past a red one; a frame cut short, which stays; a frame of length 3, which is skipped
abbrev pub frames : List Heard
frames =
    record { bytes = 0 ∷ 4 ∷ 1 ∷ 1 ∷ 0 ∷ 0 ∷ []; green = true; answer = Ok (Enter 0 0); next = 6 }
    ∷ record { bytes = 0 ∷ 4 ∷ 1 ∷ 1 ∷ 0 ∷ 0 ∷ []; green = false; answer = fault 65 0; next = 6 }
    ∷ record { bytes = 0 ∷ 4 ∷ 1 ∷ []; green = false; answer = fault 60 0; next = 0 }
    ∷ record { bytes = 0 ∷ 3 ∷ 1 ∷ 1 ∷ 0 ∷ []; green = false; answer = fault 61 0; next = 5 }
    ∷ []

abbrev pub FramesAnswered : Type 0
FramesAnswered = map {B = Result Moved Fault × ℕ} (λ (h : Heard). ((moved_by (link_of h)).0, (moved_by (link_of h)).1.at)) frames ≡ map {B = Result Moved Fault × ℕ} (λ (h : Heard). (h.answer, h.next)) frames

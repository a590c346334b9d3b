-- A train runs a route of the junction, from its reserve to its free. Assumes nothing.
use Rattle.std.specs.Prelude.{◌≡◌, ℕ, ◌-◌, ◌≤◌, false, List, [], ◌∷◌, ◌++◌, map, reverse, length, replicate, Some, None, Ok, codes, Option, refl}
use Rattle.std.proofs.Common.{arith}
use Rattle.network.specs.declared.network.Network.{Network}
use Rattle.table.specs.declared.Table.{Table}
use Rattle.network.specs.declared.route.Step.{Step}
use Rattle.network.specs.declared.sheet.Sheet.{Sheet}
use Rattle.network.specs.declared.track.Block.{Block}
use Rattle.network.specs.declared.track.Block.TheVariants.{Plain, Point, Crossing}
use Rattle.network.specs.declared.track.Joint.TheVariants.{Outer, Joined}
use Rattle.network.specs.declared.track.Position.{Position}
use Rattle.network.specs.declared.track.Position.TheVariants.{Left, Right}
use Rattle.network.specs.Rules.{no_step}
use Rattle.network.specs.Sheets.{plan_of}
use Rattle.trackside.specs.Plants.{new_plant, ground_of}
use Rattle.trackside.proofs.PlantLaws.{well_made}
use Rattle.reader.specs.Reads.{read}
use Rattle.book.specs.declared.state.RouteState.TheVariants.{Free as FreeState}
use Rattle.book.specs.declared.Entry.{Entry}
use Rattle.book.specs.Books.{new_book}
use Rattle.interlocking.specs.declared.Interlocking.{Interlocking}
use Rattle.trackside.specs.declared.answers.Moved.TheVariants.{Enter, Forward, Clear}
use Rattle.interlocking.specs.Calls.{new_interlocking}
use Rattle.interlocking.specs.History.{History}
use Rattle.interlocking.specs.Promises.{Event, Reserve, Lay, Form, Open, Watch, Free}
use Rattle.cases.specs.Sheets.{junction}
use Rattle.runs.specs.Yards.{Yard, any_yard}

-- the junction, block by block
abbrev pub junction_blocks : List Block
junction_blocks =
    Plain Outer (Joined 1 0)
    ∷ Point (Joined 0 1) (Joined 2 0) (Joined 3 0)
    ∷ Plain (Joined 1 1) Outer
    ∷ Crossing (Joined 1 2) (Joined 4 0) (Joined 5 0) (Joined 6 0)
    ∷ Plain (Joined 3 1) Outer
    ∷ Plain (Joined 3 2) Outer
    ∷ Plain (Joined 3 3) Outer
    ∷ []

-- its blocks in a row of 64
abbrev pub junction_network : Network
junction_network = record { blocks = record { items = junction_blocks ++ replicate 57 (Plain Outer Outer); len = 7; fits = (omega arith, refl) } }

-- a step through block b, entered by the end e and left by the end l
abbrev pub step : ℕ → ℕ → ℕ → Option Position → Step
step b e l n = record { block = b; entered = e; left = l; needs = n }

-- a route of n steps, in a row of 24
abbrev pub route : (ss : List Step) (n : ℕ) → n ≤ 24 → length (ss ++ replicate (24 - n) no_step) ≡ 24 → Table Step 24
route ss n few full = record { items = ss ++ replicate (24 - n) no_step; len = n; fits = (few, full) }

-- its routes, step by step; route 1 needs point 1 right, and so does route 3, the same way back
abbrev pub junction_rows : List (Table Step 24)
junction_rows =
    route (step 0 0 1 None ∷ step 1 0 1 (Some Left) ∷ step 2 0 1 None ∷ []) 3 (omega arith) refl
    ∷ route (step 0 0 1 None ∷ step 1 0 2 (Some Right) ∷ step 3 0 1 None ∷ step 4 0 1 None ∷ []) 4 (omega arith) refl
    ∷ route (step 5 1 0 None ∷ step 3 2 3 None ∷ step 6 0 1 None ∷ []) 3 (omega arith) refl
    ∷ route (step 4 1 0 None ∷ step 3 1 0 None ∷ step 1 2 0 (Some Right) ∷ step 0 1 0 None ∷ []) 4 (omega arith) refl
    ∷ []

-- its routes in a row of 32
abbrev pub all_routes : Table (Table Step 24) 32
all_routes = record { items = junction_rows ++ replicate 28 (route [] 0 (omega arith) refl); len = 4; fits = (omega arith, refl) }

-- the junction as an accepted sheet
abbrev pub junction_sheet : Sheet
junction_sheet = record { network = junction_network; routes = all_routes; lawful = refl }

-- the junction as it is built: points left, lamps red, no train
abbrev pub junction_yard : Yard
junction_yard = record {
  as_ground = ground_of (new_plant junction_blocks) [];
  made = well_made 64 (new_plant junction_blocks) [] (omega arith) (record { few = omega arith; positions = refl; green = refl }) (record { some_stand = λ k h. absurd (omega arith); stands = λ k i h. absurd (omega arith) });
  live = λ b. refl;
}

-- the interlocking in service there
abbrev pub start : Interlocking Yard
start = record { trackside = junction_yard; sheet = junction_sheet; yard = 0; book = new_book; unfit = None }

-- the calls and their answers, in their order: route 1 is reserved with its four blocks, one point is thrown, the route is formed and
-- its lamp lit green; train 0 enters block 0 and runs by the blocks 1 and 3 to block 4, its rear clears one block after the other
-- and leaves, and the route is free
abbrev pub run : List Event
run =
    Reserve 1 (Ok 4)
    ∷ Lay 1 (Ok 1)
    ∷ Form 1 (Ok 0)
    ∷ Open 1 (Ok 0)
    ∷ Watch (Ok (Enter 0 0))
    ∷ Watch (Ok (Forward 0 1))
    ∷ Watch (Ok (Forward 0 3))
    ∷ Watch (Ok (Clear 0 0))
    ∷ Watch (Ok (Forward 0 4))
    ∷ Watch (Ok (Clear 0 1))
    ∷ Watch (Ok (Clear 0 3))
    ∷ Watch (Ok (Clear 0 4))
    ∷ Free 1 (Ok 0)
    ∷ []

-- nothing is reserved or occupied any more, all routes are free, and no train is there
pub record AllClear (x : Interlocking Yard) : Type 0 where
  pub holders : map (λ (e : Entry). e.holder) x.book.blocks ≡ replicate 64 None
  pub occupied : map (λ (e : Entry). e.occupied) x.book.blocks ≡ replicate 64 false
  pub states : x.book.states ≡ replicate 32 FreeState
  pub trains : x.trackside.as_ground.trains ≡ []

-- the sheet is what the junction's text is read as; the interlocking is made there, and in service; the n calls of the run are a
-- history of it, after which all is clear again
pub record TrainRuns (n : ℕ) : Type 0 where
  pub as_read : read (junction (codes "plain 1.1 -") (codes "route 0 1 2")) ≡ Ok (plan_of junction_sheet)
  pub as_made : start ≡ new_interlocking any_yard junction_yard junction_sheet 0
  pub last : Interlocking Yard
  pub history : History any_yard start (reverse run) last
  pub clear : AllClear last
  pub count : n ≡ length run

-- The run of a train through the junction, call by call. Assumes nothing.
use Rattle.std.proofs.Common.{◌≡◌, ℕ, zero, suc, ◌<◌, true, false, List, [], ◌∷◌, ◌++◌, length, get_or, Some, None, Ok, fold, refl, ap, inl, inr, arith}
use Rattle.std.proofs.lemmas.List.{get_or-set_other}
use Rattle.network.specs.declared.track.Joint.TheVariants.{Joined}
use Rattle.network.specs.declared.track.Position.TheVariants.{Right}
use Rattle.network.specs.Rules.{steps_at}
use Rattle.network.specs.Sheets.{plan_of}
use Rattle.trackside.specs.declared.answers.Lamp.TheVariants.{Green}
use Rattle.trackside.specs.declared.answers.Moved.{Moved}
use Rattle.trackside.specs.declared.answers.Moved.TheVariants.{Enter, Forward, Clear}
use Rattle.trackside.specs.declared.answers.Stand.{Stand}
use Rattle.trackside.specs.Ground.{no_stand}
use Rattle.trackside.specs.Laws.{Thrown, Lit, Enters, Forwards, Clears, Moves}
use Rattle.trackside.specs.Plants.{Stored, new_plant, ground_of, green_if, lamp_at, joint_at, way_at, with_position, with_lamp}
use Rattle.trackside.proofs.PlantLaws.{Sized, Standing, well_made, laid_thrown, lit_lights}
use Rattle.framelink.specs.Standing.{all_there, each_there}
use Rattle.book.specs.declared.Book.{Book}
use Rattle.book.specs.declared.state.RouteState.TheVariants.{Free as FreeState, Formed}
use Rattle.book.specs.Books.{new_book, with_state}
use Rattle.book.specs.Rules.{reserved_book, noted}
use Rattle.interlocking.specs.declared.Interlocking.{Interlocking}
use Rattle.interlocking.specs.History.{History}
use Rattle.interlocking.specs.History.History.{begun, called}
use Rattle.interlocking.specs.Points.{Throw, Light, Move}
use Rattle.interlocking.specs.Points.Lays.{laid, lies, thrown}
use Rattle.interlocking.specs.Promises.{Event, Reserve, Lay, Form, Open, Watch, Free, Performed}
use Rattle.runs.specs.Yards.{Yard, any_yard}
use Rattle.runs.specs.Run.{junction_blocks, junction_sheet, junction_yard, start, run, TrainRuns}

-- the plant with its point thrown, then with its lamp lit, and then with the lamp red again
abbrev laid_right : Stored
laid_right = with_position (new_plant junction_blocks) 1 Right

abbrev lit_green : Stored
lit_green = with_lamp laid_right 0 true

abbrev red_again : Stored
red_again = with_lamp lit_green 0 false

abbrev yard_of : (m : Stored) (ts : List (List Stand)) → Sized m → Standing m ts → Yard
yard_of m ts s t = record { as_ground = ground_of m ts; made = well_made 64 m ts s.few s t; live = λ b. refl }

-- a yard with no train
abbrev empty : (m : Stored) → Sized m → Yard
empty m s = yard_of m [] s (record { some_stand = λ k h. absurd (omega arith); stands = λ k i h. absurd (omega arith) })

-- the junction with the train, which stands here, rear first
abbrev running : (s : Stand) (ss : List Stand) → all_there 7 ((s ∷ ss) ∷ []) ≡ true → Yard
running s ss h = yard_of red_again ((s ∷ ss) ∷ []) (record { few = omega arith; positions = refl; green = refl }) (record {
  some_stand = elim [ zero ↦ λ l. omega arith | suc k ↦ λ l. absurd (omega arith) ];
  stands = each_there 7 ((s ∷ ss) ∷ []) h;
})

abbrev thrown_yard : Yard
thrown_yard = empty laid_right (record { few = omega arith; positions = refl; green = refl })

abbrev lit_yard : Yard
lit_yard = empty lit_green (record { few = omega arith; positions = refl; green = refl })

abbrev left_yard : Yard
left_yard = empty red_again (record { few = omega arith; positions = refl; green = refl })

-- the interlocking over a yard, with a book
abbrev over : Yard → Book → Interlocking Yard
over t k = record { trackside = t; sheet = junction_sheet; yard = 0; book = k; unfit = None }

abbrev reserved : Book
reserved = reserved_book new_book 1 (steps_at (plan_of junction_sheet).routes 1)

abbrev formed : Book
formed = with_state reserved 1 Formed

reserves : Performed any_yard start (Reserve 1 (Ok 4)) (over junction_yard reserved)
reserves = record { acts = []; chain = record { led = refl }; does = record { none = refl; is = refl } }

throws : Thrown junction_yard.as_ground 1 Right (Ok tt) thrown_yard.as_ground
throws = laid_thrown (new_plant junction_blocks) (record { few = omega arith; positions = refl; green = refl }) [] 1 Right (Ok tt) laid_right refl

lays : Performed any_yard (over junction_yard reserved) (Lay 1 (Ok 1)) (over thrown_yard reserved)
lays = record {
  acts = Throw 1 Right (Ok tt) ∷ [];
  chain = record { led = (thrown_yard, throws, refl) };
  does = record { lays = lies refl (thrown refl throws (lies refl (lies refl laid))); rest = refl };
}

forms : Performed any_yard (over thrown_yard reserved) (Form 1 (Ok 0)) (over thrown_yard formed)
forms = record { acts = []; chain = record { led = refl }; does = record { none = refl; is = refl } }

lights : Lit thrown_yard.as_ground 0 Green (Ok tt) lit_yard.as_ground
lights = lit_lights laid_right (record { few = omega arith; positions = refl; green = refl }) [] 0 Green (Ok tt) lit_green refl

opens : Performed any_yard (over thrown_yard formed) (Open 1 (Ok 0)) (over lit_yard formed)
opens = record {
  acts = Light 0 Green (Ok tt) ∷ [];
  chain = record { led = (lit_yard, lights, refl) };
  does = record { told = Ok tt; light = refl; answer = refl; rest = refl };
}

-- a movement is watched
then_moved : {es : List Event} {s : Yard} {k : Book} → History any_yard start es (over s k) → (m : Moved) (t : Yard) → Moves s.as_ground (Ok m) t.as_ground → History any_yard start (Watch (Ok m) ∷ es) (over t (noted k m))
then_moved h m t step = called h (Watch (Ok m)) (record {
  acts = Move (Ok m) ∷ [];
  chain = record { led = (t, step, refl) };
  does = record { moved = Ok m; move = refl; answer = refl; rest = refl };
})

abbrev stand : ℕ → Stand
stand b = record { block = b; entered = 0 }

enters : Enters (ground_of lit_green []) 0 0 (ground_of red_again ((stand 0 ∷ []) ∷ []))
enters = record {
  end = 0;
  at = refl;
  lit = refl;
  number = refl;
  trains = refl;
  red = refl;
  others = λ c n. ap (green_if (lamp_at lit_green c)) (get_or-set_other lit_green.green 0 c false false n);
  built = record { count = refl; kind = λ b. refl; joint = λ b e. refl };
  points = record { lies = λ b. refl };
}

-- the front, which is the stand i and leads on to end e, reaches block b
forwards : (t : List Stand) (i e b : ℕ) (s : Stand) → suc i ≡ length t → get_or t i no_stand ≡ s → way_at red_again s.block s.entered ≡ Some e → joint_at red_again s.block e ≡ Joined b 0 → Forwards (ground_of red_again (t ∷ [])) 0 b (ground_of red_again ((t ++ stand b ∷ []) ∷ []))
forwards t i e b s last is way across = record {
  there = omega arith;
  front = s;
  is_front = (i, last, is);
  end = e;
  leads = way;
  entered = 0;
  across = across;
  trains = refl;
  built = record { count = refl; kind = λ b. refl; joint = λ b e. refl };
  points = record { lies = λ b. refl };
  lamps = record { green = λ b. refl };
}

-- the rear clears its block, and there is more of the train
clears : (s : Stand) (ss : List Stand) → 0 < length ss → Clears (ground_of red_again ((s ∷ ss) ∷ [])) 0 s.block (ground_of red_again (ss ∷ []))
clears s ss more = record {
  there = omega arith;
  rear = refl;
  how = inl (record { long = omega arith; trains = refl });
  built = record { count = refl; kind = λ b. refl; joint = λ b e. refl };
  points = record { lies = λ b. refl };
  lamps = record { green = λ b. refl };
}

leaves : Clears (ground_of red_again ((stand 4 ∷ []) ∷ [])) 0 4 (ground_of red_again [])
leaves = record {
  there = omega arith;
  rear = refl;
  how = inr (record { short = refl; end = 1; leads = refl; out = refl; trains = refl });
  built = record { count = refl; kind = λ b. refl; joint = λ b e. refl };
  points = record { lies = λ b. refl };
  lamps = record { green = λ b. refl };
}

-- the book after the movements
abbrev cleared : Book
cleared = fold noted formed (Enter 0 0 ∷ Forward 0 1 ∷ Forward 0 3 ∷ Clear 0 0 ∷ Forward 0 4 ∷ Clear 0 1 ∷ Clear 0 3 ∷ Clear 0 4 ∷ [])

frees : Performed any_yard (over left_yard cleared) (Free 1 (Ok 0)) (over left_yard (with_state cleared 1 FreeState))
frees = record { acts = []; chain = record { led = refl }; does = record { none = refl; is = refl } }

pub train_runs : (n : ℕ) → n ≡ length run → TrainRuns n
train_runs n all =
    let opened = called (called (called (called begun _ reserves) _ lays) _ forms) _ opens in
    let in-0 = then_moved opened (Enter 0 0) (running (stand 0) [] refl) enters in
    let to-1 = then_moved in-0 (Forward 0 1) (running (stand 0) (stand 1 ∷ []) refl) (forwards (stand 0 ∷ []) 0 1 1 (stand 0) refl refl refl refl) in
    let to-3 = then_moved to-1 (Forward 0 3) (running (stand 0) (stand 1 ∷ stand 3 ∷ []) refl) (forwards (stand 0 ∷ stand 1 ∷ []) 1 2 3 (stand 1) refl refl refl refl) in
    let off-0 = then_moved to-3 (Clear 0 0) (running (stand 1) (stand 3 ∷ []) refl) (clears (stand 0) (stand 1 ∷ stand 3 ∷ []) (omega arith)) in
    let to-4 = then_moved off-0 (Forward 0 4) (running (stand 1) (stand 3 ∷ stand 4 ∷ []) refl) (forwards (stand 1 ∷ stand 3 ∷ []) 1 1 4 (stand 3) refl refl refl refl) in
    let off-1 = then_moved to-4 (Clear 0 1) (running (stand 3) (stand 4 ∷ []) refl) (clears (stand 1) (stand 3 ∷ stand 4 ∷ []) (omega arith)) in
    let off-3 = then_moved off-1 (Clear 0 3) (running (stand 4) [] refl) (clears (stand 3) (stand 4 ∷ []) (omega arith)) in
    let off-4 = then_moved off-3 (Clear 0 4) left_yard leaves in
    record {
      as_read = refl;
      as_made = refl;
      last = over left_yard (with_state cleared 1 FreeState);
      history = called off-4 (Free 1 (Ok 0)) frees;
      clear = record { holders = refl; occupied = refl; states = refl; trains = refl };
      count = all;
    }

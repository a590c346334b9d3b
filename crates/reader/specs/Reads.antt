-- What a sheet's bytes declare, line by line, and how they are judged. Assumes nothing.
use Rattle.std.specs.Prelude.{ℕ, suc, ◌+◌, cond, ◌||◌, List, [], ◌∷◌, length, Some, None, Ok, Err, codes, Option, Result, ◌==◌, nat_lt}
use Rattle.std.specs.Str.{bytes_eq}
use Rattle.network.specs.declared.track.Joint.{Joint}
use Rattle.network.specs.declared.track.Block.{Block}
use Rattle.network.specs.declared.track.Block.TheVariants.{Plain, Point, Crossing}
use Rattle.network.specs.declared.route.Step.{Step}
use Rattle.network.specs.declared.rules.Broken.{Broken}
use Rattle.network.specs.declared.rules.Broken.TheVariants.{Block as BrokenBlock, Route as BrokenRoute}
use Rattle.network.specs.declared.drawing.Limit.{Limit as Over}
use Rattle.network.specs.Drawing.{Declared, empty, add_block, add_route}
use Rattle.network.specs.Judge.{Plan, judge}
use Rattle.reader.specs.declared.refusal.Refusal.{Refusal}
use Rattle.reader.specs.declared.refusal.Refusal.TheVariants.{TooLong, Form, Limit, Empty, Block as BlockRefused, Route as RouteRefused}
use Rattle.reader.specs.Words.{Shown, pieces, token_of, joint_of, number_of}

-- what one line declares
pub data Declaration : Type 0 where
  block : Block → Declaration
  route : List ℕ → Declaration

abbrev pub first_item : {A : Type 0} → Option A → Option (List A) → Option (List A)
first_item None xs = None
first_item (Some x) None = None
first_item (Some x) (Some xs) = Some (x ∷ xs)

-- words on line n that all say something to f
abbrev pub each_read : {A : Type 0} → (Shown → Option A) → ℕ → List (List ℕ) → Option (List A)
each_read f n [] = Some []
each_read f n (w ∷ ws) = first_item (f (token_of w n)) (each_read f n ws)

-- words that are all ends, on line n
abbrev pub joints : ℕ → List (List ℕ) → Option (List Joint)
joints n ws = each_read joint_of n ws

-- words that are all numbers
abbrev pub numbers : ℕ → List (List ℕ) → Option (List ℕ)
numbers n ws = each_read number_of n ws

-- a plain block has two ends, a point three, a crossing four
abbrev pub plain : Option (List Joint) → Option Declaration
plain None = None
plain (Some []) = None
plain (Some (a ∷ [])) = None
plain (Some (a ∷ (b ∷ []))) = Some (block (Plain a b))
plain (Some (a ∷ (b ∷ (c ∷ js)))) = None

abbrev pub point : Option (List Joint) → Option Declaration
point None = None
point (Some []) = None
point (Some (a ∷ [])) = None
point (Some (a ∷ (b ∷ []))) = None
point (Some (a ∷ (b ∷ (c ∷ [])))) = Some (block (Point a b c))
point (Some (a ∷ (b ∷ (c ∷ (d ∷ js))))) = None

abbrev pub crossing : Option (List Joint) → Option Declaration
crossing None = None
crossing (Some []) = None
crossing (Some (a ∷ [])) = None
crossing (Some (a ∷ (b ∷ []))) = None
crossing (Some (a ∷ (b ∷ (c ∷ [])))) = None
crossing (Some (a ∷ (b ∷ (c ∷ (d ∷ []))))) = Some (block (Crossing a b c d))
crossing (Some (a ∷ (b ∷ (c ∷ (d ∷ (e ∷ js)))))) = None

-- a route has at least one number
abbrev pub listed : Option (List ℕ) → Option Declaration
listed None = None
listed (Some []) = None
listed (Some (b ∷ bs)) = Some (route (b ∷ bs))

abbrev pub words_say : ℕ → List (List ℕ) → Option Declaration
words_say n [] = None
words_say n (w ∷ ws) =
    cond (bytes_eq w (codes "plain")) (plain (joints n ws)) (cond (bytes_eq w (codes "point")) (point (joints n ws)) (cond (bytes_eq w (codes "crossing")) (crossing (joints n ws)) (cond (bytes_eq w (codes "route")) (listed (numbers n ws)) None)))

-- what line n says, or none where its form is wrong
abbrev pub line_says : ℕ → List ℕ → Option Declaration
line_says n l = words_say n (pieces 32 l)

abbrev pub within : ℕ → Result Unit Over × Declared → Result Declared Refusal
within n (Ok x, d) = Ok d
within n (Err x, d) = Err (Limit n)

-- block lines come first
abbrev pub declare : Declared → ℕ → Option Declaration → Result Declared Refusal
declare d n None = Err (Form n)
declare d n (Some (block x)) = cond (length d.routes == 0) (within n (add_block d x)) (Err (Form n))
declare d n (Some (route r)) = within n (add_route d r)

abbrev pub and_then : Result Declared Refusal → (Declared → Result Declared Refusal) → Result Declared Refusal
and_then (Err e) k = Err e
and_then (Ok d) k = k d

-- the lines from line n on; behind the last line end nothing may stand
abbrev pub lines_declare : Declared → ℕ → List (List ℕ) → Result Declared Refusal
lines_declare d n [] = Ok d
lines_declare d n (l ∷ []) = cond (length l == 0) (Ok d) (Err (Form n))
lines_declare d n (l ∷ (m ∷ ls)) = and_then (declare d n (line_says n l)) (λ e. lines_declare e (suc n) (m ∷ ls))

-- block b stands on line b + 1, and route r on the line behind all blocks and r routes
abbrev pub refusal_of : Declared → Broken → Refusal
refusal_of d (BrokenBlock ρ b) = BlockRefused ρ (b + 1)
refusal_of d (BrokenRoute ρ r) = RouteRefused ρ (length d.blocks + r + 1)

abbrev pub placed : Declared → Result (List (List Step)) Broken → Result Plan Refusal
placed d (Ok rs) = Ok (record { blocks = d.blocks; routes = rs })
placed d (Err e) = Err (refusal_of d e)

abbrev pub judged : Result Declared Refusal → Result Plan Refusal
judged (Err e) = Err e
judged (Ok d) =
    cond (length d.blocks == 0 || length d.routes == 0) (Err Empty) (placed d (judge d.blocks d.routes))

abbrev pub read : List ℕ → Result Plan Refusal
read t = cond (nat_lt 8192 (length t)) (Err TooLong) (judged (lines_declare empty 1 (pieces 10 t)))

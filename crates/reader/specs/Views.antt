-- What the reader's values stand for. Assumes nothing.
use Rattle.std.specs.Prelude.{ℕ, cond, List, [], ◌∷◌, ◌++◌, length, Some, None, Ok, Err, codes, Option, Result, nat_lt}
use Rattle.std.specs.Str.{bytes_eq}
use Rattle.std.specs.Borrow.{Bor}
use Rattle.network.specs.declared.track.Joint.{Joint}
use Rattle.network.specs.declared.track.Block.{Block}
use Rattle.network.specs.declared.track.Kind.{Kind}
use Rattle.network.specs.declared.track.Kind.TheVariants.{Plain, Point, Crossing}
use Rattle.table.specs.declared.Table.{Table}
use Rattle.table.specs.declared.NoRoom.{NoRoom}
use Rattle.table.specs.Tables.{items_of}
use Rattle.reader.specs.declared.declaration.Declaration.{Declaration as Line}
use Rattle.reader.specs.declared.declaration.Declaration.TheVariants.{Block as LineBlock, Route as LineRoute}
use Rattle.network.specs.declared.drawing.Drawing.{Drawing}
use Rattle.network.specs.Drawing.{Declared, drawn}
use Rattle.network.specs.declared.sheet.Sheet.{Sheet}
use Rattle.network.specs.Judge.{Plan}
use Rattle.network.specs.Sheets.{plan_of}
use Rattle.reader.specs.declared.refusal.Refusal.{Refusal}
use Rattle.reader.specs.declared.refusal.Refusal.TheVariants.{Limit}
use Rattle.reader.specs.declared.token.Token.{Token}
use Rattle.reader.specs.declared.words.Words.{Words}
use Rattle.reader.specs.Words.{Shown, shown, token_of, pieces}
use Rattle.reader.specs.Reads.{Declaration, block, route, plain, point, crossing, declare}

abbrev pub words_in : Option (Bor (List ℕ)) → List (List ℕ)
words_in None = []
words_in (Some t) = pieces 32 t.now

-- the words that are still to be read on a line
abbrev pub ahead : Words → List (List ℕ)
ahead w = words_in w.rest

abbrev pub head : List (List ℕ) → Option (List ℕ)
head [] = None
head (w ∷ ws) = Some w

abbrev pub tail : List (List ℕ) → List (List ℕ)
tail [] = []
tail (w ∷ ws) = ws

-- what a part of the sheet holds
abbrev pub held : {T : Type 0} → Option (Bor (List T)) → Option (List T)
held None = None
held (Some w) = Some w.now

abbrev pub both_held : Option (Bor (List ℕ) × Bor (List ℕ)) → Option (List ℕ × List ℕ)
both_held None = None
both_held (Some p) = Some (p.0.now, p.1.now)

abbrev pub seen : Option Token → Option Shown
seen None = None
seen (Some t) = Some (shown t)

abbrev pub token_in : Option (List ℕ) → ℕ → Option Shown
token_in None n = None
token_in (Some w) n = Some (token_of w n)

abbrev pub block_said : Option Block → Option Declaration
block_said None = None
block_said (Some b) = Some (block b)

-- the kind of block that a word declares
abbrev pub kind_named : List ℕ → Option Kind
kind_named w = cond (bytes_eq w (codes "plain")) (Some Plain) (cond (bytes_eq w (codes "point")) (Some Point) (cond (bytes_eq w (codes "crossing")) (Some Crossing) None))

-- what the ends on a line make, for a block of each kind
abbrev pub block_of : Kind → Option (List Joint) → Option Declaration
block_of Plain js = plain js
block_of Point js = point js
block_of Crossing js = crossing js

-- the items of a table, or none where there was no room for all
abbrev pub kept : {T : Type 0} {N : ℕ} → Result (Table T N) NoRoom → Option (List T)
kept (Ok t) = Some (items_of t)
kept (Err e) = None

-- items so far, or none where there was no room for one
abbrev pub kept_so : {T : Type 0} → Result Unit NoRoom → List T → Option (List T)
kept_so (Ok u) xs = Some xs
kept_so (Err e) xs = None

-- these items, or none where they are more than n
abbrev pub keep : {T : Type 0} → ℕ → List T → Option (List T)
keep n xs = cond (nat_lt n (length xs)) None (Some xs)

-- one item more, where n are allowed
abbrev pub and_item : {T : Type 0} → ℕ → Option (List T) → T → Option (List T)
and_item n None x = None
and_item n (Some xs) x = keep n (xs ++ x ∷ [])

abbrev pub kept_if : {T : Type 0} {N : ℕ} → Option (Result (Table T N) NoRoom) → Option (Option (List T))
kept_if None = None
kept_if (Some r) = Some (kept r)

abbrev pub all_kept : {T : Type 0} → ℕ → Option (List T) → Option (Option (List T))
all_kept n None = None
all_kept n (Some xs) = Some (keep n xs)

-- what matters of a declaration: of a route with too many numbers, no more than that
pub data Said : Type 0 where
  said_block : Block → Said
  said_route : Option (List ℕ) → Said

abbrev pub told : Option Declaration → Option Said
told None = None
told (Some (block b)) = Some (said_block b)
told (Some (route bs)) = Some (said_route (keep 24 bs))

abbrev pub route_said : Option (Result (Table ℕ 24) NoRoom) → Option Said
route_said None = None
route_said (Some r) = Some (said_route (kept r))

abbrev pub said : Option Line → Option Said
said None = None
said (Some (LineBlock b)) = Some (said_block b)
said (Some (LineRoute r)) = Some (said_route (kept r))

-- a line's answer with the drawing behind it
abbrev pub outcome : Result Unit Refusal → Declared → Result Declared Refusal
outcome (Ok x) d = Ok d
outcome (Err e) d = Err e

abbrev pub drawn_in : Result Drawing Refusal → Result Declared Refusal
drawn_in (Ok d) = Ok (drawn d)
drawn_in (Err e) = Err e

-- what a block line and a route line declare
abbrev pub block_declared : Declared → ℕ → Block → Result Declared Refusal
block_declared d n b = declare d n (Some (block b))

abbrev pub route_declared : Declared → ℕ → Option (List ℕ) → Result Declared Refusal
route_declared d n None = Err (Limit n)
route_declared d n (Some bs) = declare d n (Some (route bs))

-- what an accepted sheet says, or why none was accepted
abbrev pub plan_in : Result Sheet Refusal → Result Plan Refusal
plan_in (Ok s) = Ok (plan_of s)
plan_in (Err e) = Err e

-- What the bytes of a frame say. Assumes nothing.
use Rattle.std.specs.Prelude.{ℕ, ◌+◌, ◌*◌, cond, List, length, take, drop, Some, None, Ok, Err, Option, Result, ◌==◌, nat_lt, slice_index}
use Rattle.std.specs.Borrow.{Bor}
use Rattle.std.specs.Option.{option_copied}
use Rattle.std.specs.Result.{result_map_both}
use Rattle.framelink.specs.declared.fault.LinkFault.{LinkFault}
use Rattle.framelink.specs.declared.fault.LinkFault.TheVariants.{CutShort, Length, Version, Kind, NoBlock}
use Rattle.framelink.specs.declared.frame.Change.{Change}
use Rattle.framelink.specs.declared.frame.Change.TheVariants.{Occupied, Cleared}
use Rattle.framelink.specs.declared.frame.Heard.{Heard}
use Rattle.framelink.specs.declared.frame.NoChange.{NoChange}

-- two bytes, the high one first
abbrev pub word : List ℕ → ℕ → ℕ
word xs i = slice_index xs i * 256 + slice_index xs (i + 1)

-- what stands behind a length field that says n, at the offset i
abbrev pub behind : ℕ → List ℕ → ℕ → Result (Option (List ℕ)) LinkFault
behind n xs i = cond (nat_lt (length xs) n) (Err (CutShort i)) (Ok (Some (take n xs)))

-- what stands behind the length field of the frame at the front of the bytes that are left, from the offset i on
abbrev pub payload_in : List ℕ → ℕ → Result (Option (List ℕ)) LinkFault
payload_in xs i = cond (nat_lt 1 (length xs)) (behind (word xs 0) (drop 2 xs) i) (cond (length xs == 1) (Err (CutShort i)) (Ok None))

-- how far the next frame lies behind this one
abbrev pub past : Result (Option (List ℕ)) LinkFault → ℕ
past (Err f) = 0
past (Ok None) = 0
past (Ok (Some xs)) = 2 + length xs

-- the bytes of a payload that was found
abbrev pub payload_seen : Result (Option (Bor (List ℕ))) LinkFault → Result (Option (List ℕ)) LinkFault
payload_seen r = result_map_both option_copied (λ f. f) r

abbrev pub no_change : NoChange
no_change = record {}

-- the kinds 1 and 2
abbrev pub change_of : ℕ → Result Change NoChange
change_of k = cond (k == 1) (Ok Occupied) (cond (k == 2) (Ok Cleared) (Err no_change))

abbrev pub told : Result Change NoChange → ℕ → ℕ → ℕ → Result Heard LinkFault
told (Err e) b i n = Err (Kind i)
told (Ok c) b i n = cond (nat_lt b n) (Ok (record { block = b; change = c })) (Err (NoBlock i))

-- what the payload xs of the frame at the offset i says, in a yard of n blocks
abbrev pub heard_in : List ℕ → ℕ → ℕ → Result Heard LinkFault
heard_in xs i n =
    cond (length xs == 4)
    (cond (slice_index xs 0 == 1) (told (change_of (slice_index xs 1)) (word xs 2) i n) (Err (Version i)))
    (Err (Length i))

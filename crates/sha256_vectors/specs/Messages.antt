-- How a line of the input names a message. Assumes nothing.
use Rattle.std.specs.Prelude.{ℕ, zero, suc, ◌+◌, cond, List, [], ◌++◌, nat_lt}

-- the digit, as a byte of ASCII, for a number below 16
abbrev pub hex_digit : ℕ → ℕ
hex_digit d = cond (nat_lt d 10) (48 + d) (87 + d)

-- a part, n times over
abbrev pub repeated : ℕ → List ℕ → List ℕ
repeated zero part = []
repeated (suc n) part = repeated n part ++ part

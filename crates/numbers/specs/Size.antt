-- How many numbers a byte and two bytes can hold.
use Rattle.std.specs.Prelude.{ℕ}

abbrev pub byte_values : ℕ
byte_values = 256

abbrev pub word : ℕ
word = 65536

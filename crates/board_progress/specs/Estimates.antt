-- The numbers in the lines that show the progress, and the estimated duration of a change.
use Rattle.std.specs.Prelude.{◌+◌, ◌-◌, ◌*◌, ◌/◌, ◌%◌, ◌^◌, ◌==◌, ◌&&◌, ℕ, Option, None, Some, min, nat_lt, if◌then◌else◌}

abbrev pub capped : ℕ → ℕ
capped n = min n (2 ^ 64 - 1)

abbrev pub percent_of : (done total : ℕ) → Option ℕ
percent_of done total = if total == 0 then None else Some (min (done * 100 / total) 100)

-- The rate in tenths of a KiB per second.
abbrev pub tenths_of : (bytes micros : ℕ) → Option ℕ
tenths_of bytes micros = if micros == 0 then None else Some (capped (bytes * 10000000 / (micros * 1024)))

abbrev pub time_for : (amount done micros : ℕ) → Option ℕ
time_for amount done micros = if done == 0 then None else Some (capped (amount * micros / done))

abbrev pub minutes_in : (micros : ℕ) → ℕ
minutes_in micros = micros / 60000000

abbrev pub seconds_in : (micros : ℕ) → ℕ
seconds_in micros = micros / 1000000 % 60

abbrev pub whole_seconds_in : (micros : ℕ) → ℕ
whole_seconds_in micros = micros / 1000000

abbrev pub millis_in : (micros : ℕ) → ℕ
millis_in micros = micros % 1000000 / 1000

-- The number of 64 KiB erases among `erases`, if the others are of 4 KiB and all cover just the `touched` sectors.
abbrev pub blocks_in : (touched erases : ℕ) → ℕ
blocks_in touched erases = min erases ((touched - erases) / 15)

-- The time of the erases of a change in microseconds (typical times of the W25Q64FV datasheet, AC Electrical
-- Characteristics). A single erase for more than 16 touched sectors counts as a chip erase.
abbrev pub erase_time : (touched erases : ℕ) → ℕ
erase_time touched erases =
    if erases == 1 && nat_lt 16 touched then touched * 20000000 / 2048
    else blocks_in touched erases * 150000 + (erases - blocks_in touched erases) * 45000

-- The typical time of a change in microseconds: its erases, and 16 page programs of 0.7 ms for each touched sector.
abbrev pub change_time : (touched erases : ℕ) → ℕ
change_time touched erases = erase_time touched erases + touched * 16 * 700

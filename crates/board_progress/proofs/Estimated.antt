-- Examples of the numbers of the progress line and of the estimated duration of a change, calculated by hand.
use Rattle.std.proofs.Common.{◌≡◌, ◌^◌, ◌-◌, None, Some, refl}
use Rattle.board_progress.specs.Estimates.{change_time, minutes_in, percent_of, seconds_in, tenths_of, time_for}

none_done : percent_of 0 16 ≡ Some 0
none_done = refl

nearly_done : percent_of 15 16 ≡ Some 93
nearly_done = refl

all_done : percent_of 16 16 ≡ Some 100
all_done = refl

too_many : percent_of 17 16 ≡ Some 100
too_many = refl

of_nothing : percent_of 0 0 ≡ None
of_nothing = refl

one_less : percent_of 4095 4096 ≡ Some 99
one_less = refl

most_done : percent_of (2 ^ 64 - 1) (2 ^ 64 - 1) ≡ Some 100
most_done = refl

whole_chip : tenths_of 8388608 8000000 ≡ Some 10240
whole_chip = refl

slow : tenths_of 102400 60000000 ≡ Some 16
slow = refl

no_bytes : tenths_of 0 1000000 ≡ Some 0
no_bytes = refl

no_time : tenths_of 4096 0 ≡ None
no_time = refl

too_fast : tenths_of (2 ^ 64 - 1) 1 ≡ Some (2 ^ 64 - 1)
too_fast = refl

three_quarters : time_for 1536 512 15000000 ≡ Some 45000000
three_quarters = refl

nothing_left : time_for 0 2048 60000000 ≡ Some 0
nothing_left = refl

nothing_done : time_for 2048 0 60000000 ≡ None
nothing_done = refl

start : (minutes_in 0 ≡ 0) × (seconds_in 0 ≡ 0)
start = (refl, refl)

last_second : (minutes_in 59999999 ≡ 0) × (seconds_in 59999999 ≡ 59)
last_second = (refl, refl)

minute : (minutes_in 60000000 ≡ 1) × (seconds_in 60000000 ≡ 0)
minute = (refl, refl)

hour : (minutes_in 3600000000 ≡ 60) × (seconds_in 3600000000 ≡ 0)
hour = (refl, refl)

-- An erase takes 45 ms for a sector, 150 ms for 64 KiB and 20 s for 8 MiB. A sector takes 16 programs of 0.7 ms.
one_sector : change_time 1 1 ≡ 56200
one_sector = refl

scattered : change_time 34 34 ≡ 1910800
scattered = refl

one_block : change_time 16 1 ≡ 329200
one_block = refl

all_sectors : change_time 2048 1 ≡ 42937600
all_sectors = refl

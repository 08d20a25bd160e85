-- The number that a refused call returns, for each fault.
use Rattle.std.specs.Prelude.{ℕ}

-- a dial has 4 to 8 digits
abbrev pub bad_digits : ℕ
bad_digits = 1

-- a day is at most 36,524, which is 31 December 2099
abbrev pub off_calendar : ℕ
off_calendar = 2

-- a register stands below the dial's turn
abbrev pub off_dial : ℕ
off_dial = 3

-- a customer is not 0
abbrev pub no_customer : ℕ
no_customer = 4

-- a book has 1 to 240 places
abbrev pub bad_places : ℕ
bad_places = 5

-- a field is a number of 32 bits or a rate's name
abbrev pub bad_field : ℕ
bad_field = 6

-- a line begins with a known letter, and has as many fields as its letter takes
abbrev pub bad_line : ℕ
bad_line = 7

-- a section begins with its count, and has as many lines
abbrev pub bad_count : ℕ
bad_count = 8

-- a sheet has at most 8,192 bytes, and none after its last section
abbrev pub bad_sheet : ℕ
bad_sheet = 9

-- a listing may not fit: its buffer has 16,384 bytes or more, and it is of at most 240 answers and 240 entries
abbrev pub may_not_fit : ℕ
may_not_fit = 10

-- the book is not as long as at the opening, or has an entry in use that no call writes
abbrev pub not_the_book : ℕ
not_the_book = 11

-- a period ends 1 to 99 days after the day last closed
abbrev pub off_period : ℕ
off_period = 12

-- all places of the book are in use
abbrev pub book_full : ℕ
book_full = 13

-- the method has no answer
abbrev pub no_answer : ℕ
no_answer = 14

-- the open sum and the estimate reach the dial's turn
abbrev pub past_dial : ℕ
past_dial = 15

-- a customer moves while entries are open
abbrev pub open_entries : ℕ
open_entries = 16

-- a customer moves to the same premise
abbrev pub same_customer : ℕ
same_customer = 17

-- a day has 24 or 96 slots
abbrev pub bad_slots : ℕ
bad_slots = 21

-- a list of intervals is 1 to 35 whole days of the calendar
abbrev pub not_whole_days : ℕ
not_whole_days = 22

-- a reference day has a value for each slot, each at most 1,000,000 Wh
abbrev pub bad_reference : ℕ
bad_reference = 23

-- holidays rise strictly
abbrev pub bad_holidays : ℕ
bad_holidays = 24

-- an interval is valid or missing, a valid one has at most 1,000,000 Wh, and a total at most 1,000,000,000 Wh
abbrev pub bad_readings : ℕ
bad_readings = 25

-- there is a missing interval to fill
abbrev pub none_missing : ℕ
none_missing = 26

-- the valid intervals come to no more than the total
abbrev pub over_total : ℕ
over_total = 27

-- there is something to share out, and no record that takes part has a weight
abbrev pub no_weight : ℕ
no_weight = 28

-- a total, a weight that takes part, or a list is beyond the limits of sharing out
abbrev pub sharing_limits : ℕ
sharing_limits = 29

-- a fixed basis, or the limit of a judgement, is beyond its bounds
abbrev pub out_of_bounds : ℕ
out_of_bounds = 30

-- a demand book has at most 240 entries
abbrev pub long_demand_book : ℕ
long_demand_book = 31

-- a question has below 100,000,000 kWh, an end day of the calendar, and 1 to 109 usage days
abbrev pub bad_figures : ℕ
bad_figures = 32

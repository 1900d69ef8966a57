-- The file of employees of a generated portfolio.
use Rattle.std.specs.Prelude.{ℕ, zero, suc, ◌+◌, ◌*◌, ◌/◌, ◌%◌, List, ◌++◌, flat_map, codes}
use Rattle.std.specs.List.{range_with_len}
use Rattle.portfolio_gen.specs.Digits.{digits}

abbrev pub next_drawn : ℕ → ℕ
next_drawn x = (1103515245 * x + 12345) % 2147483648

-- the i-th number that is drawn, where the first one follows on the number of records
abbrev pub drawn : ℕ → ℕ → ℕ
drawn count zero = count
drawn count (suc i) = next_drawn (drawn count i)

-- a year from 50 to 99, a month and a day up to 28, in two digits each
abbrev pub date : ℕ → List ℕ
date t = digits 2 (50 + t % 50) ++ (digits 2 (1 + t / 50 % 12) ++ digits 2 (1 + t / 600 % 28))

-- the employee of a number, who was hired on the date of t
abbrev pub employee_hired : ℕ → ℕ → List ℕ
employee_hired number t = digits 6 (number % 1000000) ++ (date t ++ codes "EMPLOYEE")

-- the i-th of so many records
abbrev pub employee : ℕ → ℕ → List ℕ
employee count i = employee_hired i (drawn count i / 65536)

-- the records from the first to the last
abbrev pub employees : ℕ → List ℕ
employees count = flat_map (employee count) (range_with_len 1 count)

-- The limits of document 01 on what a job file holds.
use Rattle.std.specs.Prelude.{ℕ}

-- 01: "boards n (1 byte, 1 to 16)"
abbrev pub most_processors : ℕ
most_processors = 16

-- 01: "unit cost c (1 byte, 0 to 100)"
abbrev pub most_unit : ℕ
most_unit = 100

-- 01: "duration (4 bytes, 1 to 1,000,000)"
abbrev pub most_duration : ℕ
most_duration = 1000000

-- 01: "message count (2 bytes, 1 to 1,000)"
abbrev pub most_count : ℕ
most_count = 1000

-- 02 §1: a wire's "cost 0 to 250"
abbrev pub most_wire_cost : ℕ
most_wire_cost = 250

-- 01: "1 to 256 steps"
abbrev pub most_tasks : ℕ
most_tasks = 256

-- 01: "0 to 1,024 links"
abbrev pub most_edges : ℕ
most_edges = 1024

-- How processors are linked (01: the rack's wiring, 0 flat, 1 cube, 2 ring; 02 §1: 3 by wires): the number of each topology.
use Rattle.std.specs.Prelude.{◌≡◌, ℕ, ◌<◌, Result, Ok, Err}
use Rattle.job.specs.declared.Topology.{Topology}
use Rattle.job.specs.declared.Topology.TheVariants.{Complete, Hypercube, Ring, Wired}
use Rattle.job.specs.declared.table.Refusal.{Refusal}
use Rattle.job.specs.declared.table.Refusal.TheVariants.{OutOfRange}

-- the number of a topology
abbrev pub topology_number : Topology → ℕ
topology_number Complete = 0
topology_number Hypercube = 1
topology_number Ring = 2
topology_number Wired = 3

-- the topology that a number names, or the refusal of one that names none
abbrev pub Links : ℕ → Result Topology Refusal → Type 0
Links n (Ok t) = n ≡ topology_number t
Links n (Err e) = (3 < n) × (e ≡ OutOfRange)

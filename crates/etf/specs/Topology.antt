-- Link costs (01: "Link costs"). A platform has `processors` (01: boards n), `topology` (wiring) and `unit` (unit cost c).
use Rattle.std.specs.Prelude.{not, ◌&&◌, List, [], map, ℕ, ◌-◌, ◌*◌, ◌/◌, ◌%◌, ◌^◌, min, ltb, eqb, length, get_or}
use Rattle.base.specs.Choice.{pick}
use Rattle.base.specs.Lists.{upto, filter}
use Rattle.job.specs.declared.Platform.{Platform}

-- the digit of p at binary place i
abbrev pub binary_place : ℕ → ℕ → ℕ
binary_place i p = (p / 2 ^ i) % 2

-- hypercube (01: "Cube: the number of binary places in which p and q differ"); processors are below 16, so they have four
unfoldable pub hypercube_hops : ℕ → ℕ → ℕ
hypercube_hops p q = length (filter (λ i. not (eqb (binary_place i p) (binary_place i q))) (upto 4))

-- the difference of p and q
unfoldable pub difference : ℕ → ℕ → ℕ
difference p q = pick (ltb p q) (q - p) (p - q)

-- 01: "Ring: the smaller of the difference d of p and q, and n - d"
unfoldable pub ring_hops : ℕ → ℕ → ℕ → ℕ
ring_hops n p q = min (difference p q) (n - difference p q)

-- the hops between two different processors, by topology: 0 complete (01: "Flat: 1 hop"), 1 hypercube (01: cube), 2 ring
unfoldable pub hops : Platform → ℕ → ℕ → ℕ
hops r p q =
    pick (eqb r.topology 0) 1
    (pick (eqb r.topology 1) (hypercube_hops p q)
    (pick (eqb r.topology 2) (ring_hops r.processors p q)
    0))

-- 01: "The cost from a board to itself is 0. Between boards p and q it is c times the hops."; 02 §1: under wiring 3 it is the wire's cost
-- from p to q, and c is "read but unused"
unfoldable pub cost : Platform → (ℕ → ℕ → ℕ) → ℕ → ℕ → ℕ
cost r wire p q = pick (eqb p q) 0 (pick (eqb r.topology 3) (wire p q) (r.unit * hops r p q))

-- what stands in a square of costs at row p and column q
abbrev pub entry : List (List ℕ) → ℕ → ℕ → ℕ
entry costs p q = get_or (get_or costs p []) q 0

-- 01: "the costs are laid out as a square of sixteen rows of sixteen, 0 where a board is absent"; n processors, any cost
unfoldable pub square : ℕ → (ℕ → ℕ → ℕ) → List (List ℕ)
square n c = map (λ p. map (λ q. pick (ltb p n && ltb q n) (c p q) 0) (upto 16)) (upto 16)

-- The worked cases hold, each by computing its answer.
use Rattle.std.specs.Prelude.{refl}
use Rattle.std.proofs.Common.{sym, ◌∙◌}
use mathlib.Core.List.{List, ◌++◌, map-append}
use Rattle.etf.specs.Cases.{answer, Case, worked, unequal, delivered, by_weight, tightest, further, checks, cases, Right}

-- two tables that hold make one that holds
join : (a b : List Case) → Right a → Right b → Right (a ++ b)
join a b p q =
    map-append (λ (c : Case). answer c.question) a b
    ∙ cc (p, q)
    ∙ sym (map-append (λ (c : Case). c.lines) a b)

worked_right : Right worked
unfolding worked answer
worked_right = refl

further_right : Right further
unfolding further answer
further_right = refl

unequal_right : Right unequal
unfolding unequal answer
unequal_right = refl

delivered_right : Right delivered
unfolding delivered answer
delivered_right = refl

by_weight_right : Right by_weight
unfolding by_weight answer
by_weight_right = refl

tightest_right : Right tightest
unfolding tightest answer
tightest_right = refl

checks_right : Right checks
unfolding checks answer
checks_right = refl

-- the table holds
pub cases_hold : Right cases
unfolding cases
cases_hold =
    join worked (further ++ (unequal ++ (delivered ++ (by_weight ++ (tightest ++ checks))))) worked_right
    (join further (unequal ++ (delivered ++ (by_weight ++ (tightest ++ checks)))) further_right
    (join unequal (delivered ++ (by_weight ++ (tightest ++ checks))) unequal_right
    (join delivered (by_weight ++ (tightest ++ checks)) delivered_right
    (join by_weight (tightest ++ checks) by_weight_right (join tightest checks tightest_right checks_right)))))

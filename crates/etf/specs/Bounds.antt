-- How great the numbers of an accepted job can be: each bound comes from the ones before it and from the limits of document 01.
use Rattle.std.specs.Prelude.{ℕ, ◌+◌, ◌*◌, ◌-◌, max}
use Rattle.job.specs.Limits.{most_unit, most_wire_cost, most_duration, most_count, most_tasks}

-- the hops of a way: a ring's are at most half of its processors, a hypercube's at most four
abbrev pub most_hops : ℕ
most_hops = 8

-- 01: "No cost passes 800"; a wire's does not either
abbrev pub most_cost : ℕ
most_cost = max (most_unit * most_hops) most_wire_cost

-- the messages of one edge
abbrev pub most_message_time : ℕ
most_message_time = most_count * most_cost

-- 01: "no planned time passes 460,000,000": each task takes its duration, and all but one wait for messages
abbrev pub most_finish : ℕ
most_finish = most_tasks * most_duration + (most_tasks - 1) * most_message_time

-- when messages can be there
abbrev pub most_arrival : ℕ
most_arrival = most_finish + most_message_time

-- 02 §2: the end: the messages of a result come after the last finish
abbrev pub most_end : ℕ
most_end = most_finish + most_message_time

-- the messages along a chain of edges
abbrev pub most_chain : ℕ
most_chain = (most_tasks - 1) * most_message_time

-- 02 §6: the weight of a task: no chain has a task twice
abbrev pub most_weight : ℕ
most_weight = most_tasks * most_duration

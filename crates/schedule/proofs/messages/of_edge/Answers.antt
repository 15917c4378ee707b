-- `messages::of_edge`: the messages as they are sent, by the cost to the processor.
use Rattle.schedule.specs.Laws.Sent.{time_is, arrival_is}
use Rattle.schedule.proofs.messages.of_edge.Goals as goal

pub returns-clause-time_value : goal.returns-clause-time_value
returns-clause-time_value c =
    let e = c.sent_along-sent.ensures in time_is c.args.table.now _ e.sender_value e.processor_value e.count_value _

pub returns-clause-arrival_value : goal.returns-clause-arrival_value
returns-clause-arrival_value c =
    let e = c.sent_along-sent.ensures in
    rw e.finish_value (arrival_is c.args.table.now _ e.sender_value e.processor_value e.count_value _)

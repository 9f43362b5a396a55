use Rattle.log_commands.proofs.WatchOrders.{orders_end_alike}
use Rattle.log_commands.proofs.watch_laws.orders_of_logs_end_alike.Goals as goal

pub returns : goal.returns
returns c =
    orders_end_alike (record {
      roster = c.roster_files_give_one_answer.ensures;
      logs = c.log_files_give_one_answer.ensures;
      graph = c.entries_give_one_graph.ensures;
      digests = c.survivors_are_sound.ensures.distinct;
      no_cycle = c.survivors_are_sound.ensures.no_cycle;
    }) c.one_reading_is_right.ensures c.files_give_one_report.ensures

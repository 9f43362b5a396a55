use Rattle.log_commands.proofs.CheckLess.{checks_say_no_more}
use Rattle.log_commands.proofs.check_laws.checks_say_no_more.Goals as goal

pub returns : goal.returns
returns c =
    checks_say_no_more (record {
      roster = c.roster_files_give_one_answer.ensures;
      logs = c.log_files_give_one_answer.ensures;
      graph = c.entries_give_one_graph.ensures;
      digests = c.survivors_are_sound.ensures.distinct;
      no_cycle = c.survivors_are_sound.ensures.no_cycle;
    })
    c.one_reading_is_right.ensures

use Rattle.log_commands.proofs.CheckAgreement.{checks_agree}
use Rattle.log_commands.proofs.check_laws.checks_agree_with_audits.Goals as goal

pub returns : goal.returns
returns c =
    checks_agree (record {
      roster = c.roster_files_give_one_answer.ensures;
      logs = c.log_files_give_one_answer.ensures;
      graph = c.entries_give_one_graph.ensures;
      digests = c.survivors_are_sound.ensures.distinct;
      no_cycle = c.survivors_are_sound.ensures.no_cycle;
    }) (record {
      canonical = c.one_text_is_canonical.ensures;
      read = c.proofs_are_read_in_one_way.ensures;
      rules = c.one_reading_is_right.ensures;
    })

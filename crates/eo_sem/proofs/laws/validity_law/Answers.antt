use Rattle.eo_sem.proofs.Reaching.{proved_refutes, run_reaches, run_rules, valid_proved}
use Rattle.eo_sem.proofs.Validity.{reached_refutes}
use Rattle.eo_sem.proofs.laws.validity_law.Goals as goal
use Rattle.eo_sem.specs.SemanticRules.{is_semantic}
use Rattle.eo_session.proofs.Decisions.{placed_done}

pub returns-clause-state : goal.returns-clause-state
returns-clause-state c =
    reached_refutes (record {
      first = c.allowed_law.ensures.first is_semantic;
      begin = c.allowed_law.ensures.begin is_semantic;
      command = c.allowed_law.ensures.command is_semantic;
      end = c.allowed_law.ensures.end is_semantic;
      stays = c.commands_law.ensures.closed;
      quiet = c.commands_law.ensures.quiet;
    })

pub returns-clause-proof : goal.returns-clause-proof
returns-clause-proof c =
    proved_refutes (record {
      first = c.allowed_law.ensures.first is_semantic;
      begin = c.allowed_law.ensures.begin is_semantic;
      command = c.allowed_law.ensures.command is_semantic;
      end = c.allowed_law.ensures.end is_semantic;
      stays = c.commands_law.ensures.closed;
      quiet = c.commands_law.ensures.quiet;
    })

pub returns-clause-reached : goal.returns-clause-reached
returns-clause-reached c = run_reaches

pub returns-clause-valid : goal.returns-clause-valid
returns-clause-valid c =
    valid_proved (record {
      first = c.allowed_law.ensures.first is_semantic;
      begin = c.allowed_law.ensures.begin is_semantic;
      command = c.allowed_law.ensures.command is_semantic;
      end = c.allowed_law.ensures.end is_semantic;
      stays = c.commands_law.ensures.closed;
      quiet = c.commands_law.ensures.quiet;
    }) placed_done

pub returns-clause-same_rules : goal.returns-clause-same_rules
returns-clause-same_rules c =
    run_rules (record {
      first = c.allowed_law.ensures.first is_semantic;
      begin = c.allowed_law.ensures.begin is_semantic;
      command = c.allowed_law.ensures.command is_semantic;
      end = c.allowed_law.ensures.end is_semantic;
      stays = c.commands_law.ensures.closed;
      quiet = c.commands_law.ensures.quiet;
    }) placed_done

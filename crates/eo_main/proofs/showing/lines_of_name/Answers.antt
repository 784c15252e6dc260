use Rattle.eo_main.proofs.ShowLemmas.{ready_answers, ended_answers, named_kind, named_cause}
use Rattle.eo_main.proofs.showing.lines_of_name.Goals as goal

pub returns-in-Ready-clause-answers : goal.returns-in-Ready-clause-answers
returns-in-Ready-clause-answers g c =
    ready_answers c.args.file.now c.args.name.now c.load_session.new.paths (g.L.Library.told c.args.files.now) c.in-Ready.session c.in-Ready.end c.lines_at_end.result c.in-Ready.ensures.loads c.lines_at_end.ensures

pub returns-in-Ready-clause-kind : goal.returns-in-Ready-clause-kind
returns-in-Ready-clause-kind g c =
    named_kind c.load_session.new.paths c.in-Ready.session.state c.args.name.now c.in-Ready.end c.lines_at_end.result c.in-Ready.ensures.kind.1 c.lines_at_end.ensures

pub returns-in-Ready-clause-cause : goal.returns-in-Ready-clause-cause
returns-in-Ready-clause-cause g c =
    named_cause c.load_session.new.paths c.in-Ready.session.state c.args.name.now c.in-Ready.end c.lines_at_end.result (g.L.Library.told c.args.files.now) _ _ c.lines_at_end.ensures

pub returns-in-Ended-clause-answers : goal.returns-in-Ended-clause-answers
returns-in-Ended-clause-answers g c =
    ended_answers c.args.file.now c.args.name.now c.load_session.new.paths (g.L.Library.told c.args.files.now) c.in-Ended.verdict c.in-Ended.ensures.loads

use Rattle.std.proofs.lemmas.Result.{on_ok_weaker}
use Rattle.eo_sig.proofs.Adding.{is_added, new_entry, stays_below, stays_usable}
use Rattle.eo_sig.proofs.signature.Signature.add.Goals as goal

pub keep-requires : goal.keep-requires
keep-requires c = new_entry c.args.table.now.trees c.args.self.now c.args.d c.requires.free c.requires.sound

pub returns-clause-adds : goal.returns-clause-adds
returns-clause-adds c = on_ok_weaker c.keep.result (is_added c.args.self.now c.keep.new.self c.args.d) c.keep.ensures.kept

pub returns-clause-usable : goal.returns-clause-usable
returns-clause-usable c =
    on_ok_weaker c.keep.result (λ e. stays_usable c.args.self.now c.keep.new.self c.args.d e c.args.table.now.trees c.requires.sound c.requires.ordered) c.keep.ensures.kept

pub returns-clause-below : goal.returns-clause-below
returns-clause-below c = on_ok_weaker c.keep.result (stays_below c.args.self.now c.keep.new.self c.args.d) c.keep.ensures.kept

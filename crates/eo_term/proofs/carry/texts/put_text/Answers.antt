use Rattle.std.proofs.Common.{◌≡◌, ◌∷◌, [], ◌++◌, IfOk, refl, subst, if◌then◌else◌}
use Rattle.std.specs.List.{list_any}
use Rattle.std.specs.Str.{bytes_eq}
use Rattle.eo_term.proofs.Texts.{texts_push}
use Rattle.eo_term.proofs.KeptTexts.{no_text}
use Rattle.eo_term.proofs.carry.texts.put_text.Goals as goal

pub returns-clause-texts : goal.returns-clause-texts
returns-clause-texts c =
    let ks = c.args.texts.now.keys in
    let x = c.args.text in
    let keys = subst (λ r. IfOk r (λ b. c.insert.new.self.keys ≡ (if list_any (λ y. bytes_eq x.items y.items) ks then ks else ks ++ x ∷ []))) c.unwrap.ensures c.insert.ensures.keys in
    texts_push (λ w. w.items) x.items ks c.insert.new.self.keys x refl (no_text (λ w. w.items) x.items ks c.requires.absent) keys

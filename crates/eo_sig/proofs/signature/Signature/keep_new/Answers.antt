use Rattle.std.proofs.Common.{◌≡◌, [], ◌∷◌, ◌++◌, Some, None, List, ℕ, length, map, sym, ap, ◌∙◌, subst}
use Rattle.std.specs.Prelude.{bytes_eq, if◌then◌else◌}
use Rattle.std.specs.Map.{lookup}
use Rattle.eo_sig.specs.declared.records.Declared.TheVariants as declared
use Rattle.eo_sig.specs.declared.records.ConstDecl.{ConstDecl}
use Rattle.eo_sig.specs.Indexed.{Tables, with_new}
use Rattle.eo_sig.specs.Overloads.{tables_of}
use Rattle.eo_sig.specs.Signature as sig
use Rattle.eo_sig.specs.Reading.{Kept, signature, read_entry, with_entry}
use Rattle.eo_sig.proofs.Keeping.{kept_new, at_ok}
use Rattle.eo_sig.proofs.signature.Signature.keep_new.Goals as goal

pub invariant_of-self-2 : goal.invariant_of-self-2
invariant_of-self-2 c =
    let es = c.self.inside.entries.items in
    let cs = c.self.inside.constants.items in
    let fs = c.self.inside.firsts.entries in
    let d : ConstDecl = c.in_ok-key.d in
    let same : c.args.d ≡ d = sym c.in_ok-key.ensures.other in
    let key : c.in_ok-key.key ≡ d.name = at_ok (λ n. n ≡ c.as_bytes.result.now) c.new.result c.in_ok-key.key c.in_ok-key.ensures.called c.new.ensures ∙ c.as_bytes.ensures ∙ ap (λ (x : ConstDecl). x.name) same in
    let free : sig.constant_named (map (read_entry []) es) d.name ≡ None = subst (λ (x : ConstDecl). sig.constant_named (map (read_entry []) es) x.name ≡ None) same (subst (λ (k : Kept). sig.constant_named (signature [] k) c.args.d.name ≡ None) (sym c.self.view_is) c.requires) in
    let x : Tables = tables_of fs c.self.inside.overloads in
    let u : Tables = tables_of c.append_new.new.firsts.entries c.self.inside.overloads in
    let now : u ≡ with_new x d.name (length cs) = λ i. record {
      first = λ w. (c.in_ok-append_new.ensures.names w ∙ ap (λ (v : List ℕ). if bytes_eq v w then Some (length cs) else lookup (bytes_eq w) fs) key) i;
      exact = x.exact;
      rest = x.rest;
      most = x.most;
    } in
    kept_new es cs x _ _ _ _ _ _ c.self.invariant d c.args.counts c.append_new.new.entries.items c.append_new.new.places.items u c.in_ok-append_new.ensures.entries c.in_ok-append_new.ensures.places free now

pub returns-clause-kept : goal.returns-clause-kept
returns-clause-kept c =
    let es = c.self.inside.entries.items in
    let entries : c.append_new.new.entries.items ≡ es ++ declared.Const c.args.d c.args.counts ∷ [] = c.in_ok-append_new.ensures.entries ∙ ap (λ (x : ConstDecl). es ++ declared.Const x c.args.counts ∷ []) c.in_ok-key.ensures.other in
    (λ i. record { entries = entries i; macros = map (λ e. e.1) c.self.inside.macros.entries }) ∙ ap (with_entry (declared.Const c.args.d c.args.counts)) c.self.view_is

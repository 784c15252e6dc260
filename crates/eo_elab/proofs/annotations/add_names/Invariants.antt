use Rattle.std.proofs.Common.{◌≡◌, ◌<◌, length, map, drop}
use Rattle.eo_term.specs.Terms.{Terms}
use Rattle.eo_names.specs.Contexts.{FileKind}
use Rattle.eo_names.specs.Names.{BindingsBelow}
use Rattle.eo_elab.specs.Gives.{NamesGrow}
use Rattle.eo_elab.specs.Worlds.{named_term_over}
use Rattle.eo_elab.proofs.annotations.add_names.Given as goal

-- the names that are left are given after those that were given
abbrev pub invariant-loop-name : goal.invariant-loop-name
invariant-loop-name l = record {
  left : (t : Terms) (x : FileKind) → named_term_over t l.sig x l.initial.named_terms l.id (map (λ name. name.now) l.names) ≡ named_term_over t l.sig x l.named_terms l.id (map (λ name. name.now) (drop l.name-index l.names));
  grows : (t : Terms) → l.id < length t.trees → BindingsBelow (length t.trees) l.initial.named_terms → NamesGrow t l.initial.named_terms l.named_terms;
}

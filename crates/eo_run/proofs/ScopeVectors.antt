-- Checks of proofs with steps and scopes.
use Rattle.std.specs.Prelude.{◌≡◌, refl, ℕ, false, List, ◌∷◌, [], ◌++◌, None, Some, codes}
use Rattle.eo_run.proofs.Computed.{computed}
use Rattle.eo_run.specs.Check.{verdict}
use Rattle.eo_run.specs.Printed.{line, verdict_text}

-- the check of this proof against the reference file `(assert false)` prints this line
abbrev Prints : (proof text : List ℕ) → Type 0
Prints proof text =
    verdict_text (verdict ((codes "r.smt2", codes "(assert false)") ∷ (codes "p.eo", proof) ∷ []) (record { include = None; reference = Some (codes "r.smt2"); proof = codes "p.eo"; closed = false })) ≡ line text

-- a rule that repeats a fact, another that is marked as unproved, and one that discharges an assumption
abbrev keep : List ℕ
keep = codes "(declare-rule keep ((F Bool)) :premises (F) :conclusion F)"

abbrev skip : List ℕ
skip = codes "(declare-rule skip ((F Bool)) :premises (F) :conclusion F :sorry)"

abbrev drop : List ℕ
drop = codes "(declare-rule drop ((F Bool)(G Bool)) :assumption F :premises (G) :conclusion G)"

-- a rule that is proved
step_correct : Prints (keep ++ codes "(assume a false)(step b :rule keep :premises (a))") (codes "correct")
unfolding computed
step_correct = refl

-- a step by a rule that is marked as unproved
step_incomplete : Prints (skip ++ codes "(assume a false)(step b false :rule skip :premises (a))") (codes "incomplete")
unfolding computed
step_incomplete = refl

-- the mark alone changes nothing
unused_rule : Prints (skip ++ codes "(assume a false)") (codes "correct")
unfolding computed
unused_rule = refl

-- a fault at the end comes first
incomplete_without_false : Prints (codes "(declare-rule skip () :conclusion true :sorry)(step b :rule skip)") (codes "refused F41 NoRefutation p.eo:1:65")
unfolding computed
incomplete_without_false = refl

-- a scope that is opened and closed
popped : Prints (drop ++ codes "(assume a false)(assume-push h true)(step-pop b :rule drop :premises (a))") (codes "correct")
unfolding computed
popped = refl

-- a fact of a scope is none outside it
fact_of_scope : Prints (drop ++ codes "(assume a false)(assume-push h true)(step-pop b :rule drop :premises (a))(assume-push i true)(step-pop c :rule drop :premises (h))") (codes "refused F24 UnknownPremise p.eo:1:173")
unfolding computed
fact_of_scope = refl

-- its name is free again
name_of_scope : Prints (drop ++ codes "(assume a false)(assume-push h true)(step-pop b :rule drop :premises (a))(assume-push h true)(step-pop h :rule drop :premises (h))") (codes "correct")
unfolding computed
name_of_scope = refl

-- a macro of a scope is none outside it
macro_of_scope : Prints (drop ++ codes "(assume a false)(assume-push h true)(define f () true)(step-pop b f :rule drop :premises (h))(define f () false)(assume c f)") (codes "correct")
unfolding computed
macro_of_scope = refl

-- what is concluded in a scope is a fact there
step_in_scope : Prints (keep ++ drop ++ codes "(assume-push h true)(step b :rule keep :premises (h))(step-pop c true :rule drop :premises (b))") (codes "refused F41 NoRefutation p.eo:1:233")
unfolding computed
step_in_scope = refl

-- `false` in an open scope refutes nothing
open_scope : Prints (codes "(assume-push h false)") (codes "refused F40 ScopeOpen p.eo:1:21")
unfolding computed
open_scope = refl

-- commands that are not allowed in a scope
in_scope : Prints (codes "(assume-push h true)(declare-const p Bool)") (codes "refused F31 InScope p.eo:1:20")
unfolding computed
in_scope = refl

assumed_in_scope : Prints (codes "(assume-push h true)(assume h zz)") (codes "refused F31 InScope p.eo:1:20")
unfolding computed
assumed_in_scope = refl

-- the shape of a command comes first
shape_in_scope : Prints (codes "(assume-push h true)(declare-const p)") (codes "refused F11 BadCommand p.eo:1:20")
unfolding computed
shape_in_scope = refl

no_scope : Prints (drop ++ codes "(step-pop let :rule none)") (codes "refused F32 NoScope p.eo:1:80")
unfolding computed
no_scope = refl

pushed_name : Prints (codes "(assume a false)(assume-push a zz)") (codes "refused F12 Redeclared p.eo:1:16")
unfolding computed
pushed_name = refl

popped_name : Prints (drop ++ codes "(assume a false)(assume-push h true)(step-pop a :rule none)") (codes "refused F12 Redeclared p.eo:1:116")
unfolding computed
popped_name = refl

-- a fact of the scope keeps no name outside it
unknown_rule : Prints (codes "(assume-push h true)(step-pop h :rule none :premises (none))") (codes "refused F23 UnknownRule p.eo:1:20")
unfolding computed
unknown_rule = refl

-- a rule with an assumption is used to close a scope, and no other is
wrong_kind : Prints (keep ++ codes "(assume a false)(assume-push h true)(step-pop b :rule keep :premises (a))") (codes "refused F36 WrongKind p.eo:1:94")
unfolding computed
wrong_kind = refl

assumption_not_discharged : Prints (drop ++ codes "(assume a false)(step b :rule drop :premises (a))") (codes "refused F36 WrongKind p.eo:1:96")
unfolding computed
assumption_not_discharged = refl

-- a stated formula is compared with the conclusion
other_conclusion : Prints (keep ++ codes "(assume a false)(step b true :rule keep :premises (a))") (codes "refused F26 ConclusionDiffers p.eo:1:74")
unfolding computed
other_conclusion = refl

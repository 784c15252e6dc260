use Rattle.eo_pattern.proofs.Heights.{put_height}
use Rattle.eo_pattern.proofs.Steps.{put_closed, put_nothing, count_put, argument_put}
use Rattle.eo_pattern.proofs.laws.putting_law.Goals as goal

pub returns-clause-closed : goal.returns-clause-closed
returns-clause-closed c = λ σ t h. put_closed σ t h

pub returns-clause-none : goal.returns-clause-none
returns-clause-none c = λ t. put_nothing t

pub returns-clause-count : goal.returns-clause-count
returns-clause-count c = λ σ ts. count_put σ ts

pub returns-clause-argument : goal.returns-clause-argument
returns-clause-argument c = λ σ ts i l. argument_put σ ts i l

pub returns-clause-height : goal.returns-clause-height
returns-clause-height c = λ σ h one low t. put_height σ h one low t

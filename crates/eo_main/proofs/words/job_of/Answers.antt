use Rattle.eo_main.proofs.words.job_of.Goals as goal

pub returns : goal.returns
returns c = λ i. record {
  include = c.in_ok-text_of.ensures i;
  reference = c.in_ok-text_of-2.ensures i;
  proof = c.in_ok-new.ensures i;
  closed = c.is_set.ensures i;
}

use Rattle.std.proofs.Common.{ℕ}
use Rattle.eo_term.proofs.Walks.{begun_first, begun_top, begun_last, begun_part, begun_rest, left_part, left_rest}
use Rattle.eo_term.proofs.walk.walk_law.Goals as goal

pub returns : goal.returns
returns c = λ n id.
    let R : ℕ → Type 0 = λ x. Unit {0} in
    record {
      first = λ w f a e l. begun_first n R id w f a e l tt;
      live = λ w h. (begun_top n R id w h).live;
      last = λ w h e. begun_last n R id w e h;
      part = λ w v p h b l u. record { goes = begun_part n R id w v p h b l u tt; less = left_part n w v p b l };
      rest = λ w v f h b. record { goes = begun_rest n R id w v f h b; less = left_rest n R id w v f h b };
    }

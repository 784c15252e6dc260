-- The connectives: the numbers of their constants in a signature that begins with the suite's, and their uses.
use Rattle.std.specs.Prelude.{ℕ}
use Rattle.eo_term.specs.Tree.{Tree, Con, App}

-- ---- numbers

abbrev pub true_number : ℕ
true_number = 2

abbrev pub false_number : ℕ
false_number = 3

abbrev pub not_number : ℕ
not_number = 7

abbrev pub and_number : ℕ
and_number = 8

abbrev pub or_number : ℕ
or_number = 9

abbrev pub implies_number : ℕ
implies_number = 10

abbrev pub xor_number : ℕ
xor_number = 11

abbrev pub equals_number : ℕ
equals_number = 12

abbrev pub ite_number : ℕ
ite_number = 14

-- ---- uses

abbrev pub neg : Tree → Tree
neg a = App (Con not_number) a

abbrev pub conj : Tree → Tree → Tree
conj a b = App (App (Con and_number) a) b

abbrev pub disj : Tree → Tree → Tree
disj a b = App (App (Con or_number) a) b

abbrev pub impl : Tree → Tree → Tree
impl a b = App (App (Con implies_number) a) b

abbrev pub xor : Tree → Tree → Tree
xor a b = App (App (Con xor_number) a) b

abbrev pub equal : Tree → Tree → Tree
equal a b = App (App (Con equals_number) a) b

abbrev pub ite : Tree → Tree → Tree → Tree
ite c a b = App (App (App (Con ite_number) c) a) b

-- The kinds of atoms.

pub data AtomKind : Type 0 where
  Symbol : AtomKind
  Keyword : AtomKind
  Literal : AtomKind
  String : AtomKind

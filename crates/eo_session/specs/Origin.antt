-- The file that a command is in. A file that is included is of the kind of the file that includes it.
pub data Origin : Type 0 where
  Signature : Origin
  Proof : Origin
  Reference : Origin

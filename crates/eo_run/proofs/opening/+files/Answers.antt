-- Where a file is run with the files that its commands open: each subject in a file of its own.
mod Piece
mod Rest
mod FileRequest
mod Included
mod Referred
mod Opened
mod Pieces
use Rattle.eo_run.proofs.opening.+files.Answers.Piece as piece
use Rattle.eo_run.proofs.opening.+files.Answers.Rest as rest
use Rattle.eo_run.proofs.opening.+files.Answers.FileRequest as asked
use Rattle.eo_run.proofs.opening.+files.Answers.Included as included
use Rattle.eo_run.proofs.opening.+files.Answers.Referred as referred
use Rattle.eo_run.proofs.opening.+files.Answers.Opened as opened
use Rattle.eo_run.proofs.opening.+files.Answers.Pieces as pieces
use Rattle.eo_run.proofs.opening.+files.Goals as goal

-- ---- the commands of a piece

pub take_piece-returns-in-Err-clause-takes : goal.take_piece-returns-in-Err-clause-takes
take_piece-returns-in-Err-clause-takes = piece.take_piece-returns-in-Err-clause-takes

pub take_piece-returns-in-Ok-None-clause-takes : goal.take_piece-returns-in-Ok-None-clause-takes
take_piece-returns-in-Ok-None-clause-takes = piece.take_piece-returns-in-Ok-None-clause-takes

pub take_piece-returns-in_err-open_next-in-Ok-Some-clause-takes : goal.take_piece-returns-in_err-open_next-in-Ok-Some-clause-takes
take_piece-returns-in_err-open_next-in-Ok-Some-clause-takes = piece.take_piece-returns-in_err-open_next-in-Ok-Some-clause-takes

pub take_piece-returns-in_err-open_next-in-Ok-Some-clause-keeps : goal.take_piece-returns-in_err-open_next-in-Ok-Some-clause-keeps
take_piece-returns-in_err-open_next-in-Ok-Some-clause-keeps = piece.take_piece-returns-in_err-open_next-in-Ok-Some-clause-keeps

pub take_piece-returns-then-ends-clause-takes : goal.take_piece-returns-then-ends-clause-takes
take_piece-returns-then-ends-clause-takes = piece.take_piece-returns-then-ends-clause-takes

pub take_piece-returns-then-ends-clause-keeps : goal.take_piece-returns-then-ends-clause-keeps
take_piece-returns-then-ends-clause-keeps = piece.take_piece-returns-then-ends-clause-keeps

pub take_piece-commands-preserved : goal.take_piece-commands-preserved
take_piece-commands-preserved = piece.take_piece-commands-preserved

pub take_piece-commands-init : goal.take_piece-commands-init
take_piece-commands-init = piece.take_piece-commands-init

pub take_piece-commands-smaller : goal.take_piece-commands-smaller
take_piece-commands-smaller = piece.take_piece-commands-smaller

-- ---- what the end makes whole

pub check_rest-returns-in-Err-clause-takes : goal.check_rest-returns-in-Err-clause-takes
check_rest-returns-in-Err-clause-takes = rest.check_rest-returns-in-Err-clause-takes

pub check_rest-returns-in-Ok-None-clause-takes : goal.check_rest-returns-in-Ok-None-clause-takes
check_rest-returns-in-Ok-None-clause-takes = rest.check_rest-returns-in-Ok-None-clause-takes

pub check_rest-returns-in_err-open_next-in-Ok-Some-clause-takes : goal.check_rest-returns-in_err-open_next-in-Ok-Some-clause-takes
check_rest-returns-in_err-open_next-in-Ok-Some-clause-takes = rest.check_rest-returns-in_err-open_next-in-Ok-Some-clause-takes

pub check_rest-returns-in_err-open_next-in-Ok-Some-clause-keeps : goal.check_rest-returns-in_err-open_next-in-Ok-Some-clause-keeps
check_rest-returns-in_err-open_next-in-Ok-Some-clause-keeps = rest.check_rest-returns-in_err-open_next-in-Ok-Some-clause-keeps

pub check_rest-returns-then-ends-clause-takes : goal.check_rest-returns-then-ends-clause-takes
check_rest-returns-then-ends-clause-takes = rest.check_rest-returns-then-ends-clause-takes

pub check_rest-returns-then-ends-clause-keeps : goal.check_rest-returns-then-ends-clause-keeps
check_rest-returns-then-ends-clause-keeps = rest.check_rest-returns-then-ends-clause-keeps

pub check_rest-atoms-preserved : goal.check_rest-atoms-preserved
check_rest-atoms-preserved = rest.check_rest-atoms-preserved

pub check_rest-atoms-init : goal.check_rest-atoms-init
check_rest-atoms-init = rest.check_rest-atoms-init

-- ---- what a command asks for

pub open_next-returns-in_err-file-in-Include-clause-opens : goal.open_next-returns-in_err-file-in-Include-clause-opens
open_next-returns-in_err-file-in-Include-clause-opens = asked.open_next-returns-in_err-file-in-Include-clause-opens

pub open_next-returns-in_err-file-in-Reference-clause-opens : goal.open_next-returns-in_err-file-in-Reference-clause-opens
open_next-returns-in_err-file-in-Reference-clause-opens = asked.open_next-returns-in_err-file-in-Reference-clause-opens

pub open_next-returns-in_err-file-in-Include-clause-keeps : goal.open_next-returns-in_err-file-in-Include-clause-keeps
open_next-returns-in_err-file-in-Include-clause-keeps = asked.open_next-returns-in_err-file-in-Include-clause-keeps

pub open_next-returns-in_err-file-in-Reference-clause-keeps : goal.open_next-returns-in_err-file-in-Reference-clause-keeps
open_next-returns-in_err-file-in-Reference-clause-keeps = asked.open_next-returns-in_err-file-in-Reference-clause-keeps

pub open_next-returns-in-Done-clause-opens : goal.open_next-returns-in-Done-clause-opens
open_next-returns-in-Done-clause-opens = asked.open_next-returns-in-Done-clause-opens

-- ---- a file that is included

pub include-check_file-end-requires : goal.include-check_file-end-requires
include-check_file-end-requires = included.include-check_file-end-requires

pub include-returns-then-is_included-clause-includes : goal.include-returns-then-is_included-clause-includes
include-returns-then-is_included-clause-includes = included.include-returns-then-is_included-clause-includes

pub include-returns-then-source-eq1-clause-includes : goal.include-returns-then-source-eq1-clause-includes
include-returns-then-source-eq1-clause-includes = included.include-returns-then-source-eq1-clause-includes

pub include-returns-then-source-eq1-clause-keeps : goal.include-returns-then-source-eq1-clause-keeps
include-returns-then-source-eq1-clause-keeps = included.include-returns-then-source-eq1-clause-keeps

pub include-returns-clause-includes : goal.include-returns-clause-includes
include-returns-clause-includes = included.include-returns-clause-includes

pub include-returns-clause-cause : goal.include-returns-clause-cause
include-returns-clause-cause = included.include-returns-clause-cause

pub include-returns-clause-keeps : goal.include-returns-clause-keeps
include-returns-clause-keeps = included.include-returns-clause-keeps

-- ---- a reference file

pub refer-check_file-end-requires : goal.refer-check_file-end-requires
refer-check_file-end-requires = referred.refer-check_file-end-requires

pub refer-returns-in_err-begin_reference_at-clause-refers : goal.refer-returns-in_err-begin_reference_at-clause-refers
refer-returns-in_err-begin_reference_at-clause-refers = referred.refer-returns-in_err-begin_reference_at-clause-refers

pub refer-returns-in_err-begin_reference_at-clause-cause : goal.refer-returns-in_err-begin_reference_at-clause-cause
refer-returns-in_err-begin_reference_at-clause-cause = referred.refer-returns-in_err-begin_reference_at-clause-cause

pub refer-returns-in_err-begin_reference_at-clause-keeps : goal.refer-returns-in_err-begin_reference_at-clause-keeps
refer-returns-in_err-begin_reference_at-clause-keeps = referred.refer-returns-in_err-begin_reference_at-clause-keeps

pub refer-returns-clause-refers : goal.refer-returns-clause-refers
refer-returns-clause-refers = referred.refer-returns-clause-refers

pub refer-returns-clause-cause : goal.refer-returns-clause-cause
refer-returns-clause-cause = referred.refer-returns-clause-cause

pub refer-returns-clause-keeps : goal.refer-returns-clause-keeps
refer-returns-clause-keeps = referred.refer-returns-clause-keeps

-- ---- a file

pub check_file-returns-in-Ready-clause-runs : goal.check_file-returns-in-Ready-clause-runs
check_file-returns-in-Ready-clause-runs = opened.check_file-returns-in-Ready-clause-runs

pub check_file-returns-in-Ready-clause-cause : goal.check_file-returns-in-Ready-clause-cause
check_file-returns-in-Ready-clause-cause = opened.check_file-returns-in-Ready-clause-cause

pub check_file-returns-in-Ready-clause-keeps : goal.check_file-returns-in-Ready-clause-keeps
check_file-returns-in-Ready-clause-keeps = opened.check_file-returns-in-Ready-clause-keeps

pub check_file-returns-in-Ready-clause-stays : goal.check_file-returns-in-Ready-clause-stays
check_file-returns-in-Ready-clause-stays = opened.check_file-returns-in-Ready-clause-stays

-- ---- the pieces of a file

pub check_pieces-pieces-init : goal.check_pieces-pieces-init
check_pieces-pieces-init = pieces.check_pieces-pieces-init

pub check_pieces-returns-then-n-eq0-clause-runs : goal.check_pieces-returns-then-n-eq0-clause-runs
check_pieces-returns-then-n-eq0-clause-runs = pieces.check_pieces-returns-then-n-eq0-clause-runs

pub check_pieces-returns-then-n-eq0-clause-keeps : goal.check_pieces-returns-then-n-eq0-clause-keeps
check_pieces-returns-then-n-eq0-clause-keeps = pieces.check_pieces-returns-then-n-eq0-clause-keeps

pub check_pieces-take_piece-requires : goal.check_pieces-take_piece-requires
check_pieces-take_piece-requires = pieces.check_pieces-take_piece-requires

pub check_pieces-returns-in_err-take_piece-clause-runs : goal.check_pieces-returns-in_err-take_piece-clause-runs
check_pieces-returns-in_err-take_piece-clause-runs = pieces.check_pieces-returns-in_err-take_piece-clause-runs

pub check_pieces-returns-in_err-take_piece-clause-keeps : goal.check_pieces-returns-in_err-take_piece-clause-keeps
check_pieces-returns-in_err-take_piece-clause-keeps = pieces.check_pieces-returns-in_err-take_piece-clause-keeps

pub check_pieces-returns-in_err-take_piece-clause-reads : goal.check_pieces-returns-in_err-take_piece-clause-reads
check_pieces-returns-in_err-take_piece-clause-reads = pieces.check_pieces-returns-in_err-take_piece-clause-reads

pub check_pieces-returns-then-branch-clause-runs : goal.check_pieces-returns-then-branch-clause-runs
check_pieces-returns-then-branch-clause-runs = pieces.check_pieces-returns-then-branch-clause-runs

pub check_pieces-returns-then-branch-clause-keeps : goal.check_pieces-returns-then-branch-clause-keeps
check_pieces-returns-then-branch-clause-keeps = pieces.check_pieces-returns-then-branch-clause-keeps

pub check_pieces-returns-then-branch-clause-reads : goal.check_pieces-returns-then-branch-clause-reads
check_pieces-returns-then-branch-clause-reads = pieces.check_pieces-returns-then-branch-clause-reads

pub check_pieces-returns-then-n-left-clause-runs : goal.check_pieces-returns-then-n-left-clause-runs
check_pieces-returns-then-n-left-clause-runs = pieces.check_pieces-returns-then-n-left-clause-runs

pub check_pieces-returns-then-n-left-clause-keeps : goal.check_pieces-returns-then-n-left-clause-keeps
check_pieces-returns-then-n-left-clause-keeps = pieces.check_pieces-returns-then-n-left-clause-keeps

pub check_pieces-returns-then-n-left-clause-reads : goal.check_pieces-returns-then-n-left-clause-reads
check_pieces-returns-then-n-left-clause-reads = pieces.check_pieces-returns-then-n-left-clause-reads

pub check_pieces-take_piece-requires-in-pieces : goal.check_pieces-take_piece-requires-in-pieces
check_pieces-take_piece-requires-in-pieces = pieces.check_pieces-take_piece-requires-in-pieces

pub check_pieces-returns-in_err-take_piece-2-clause-runs : goal.check_pieces-returns-in_err-take_piece-2-clause-runs
check_pieces-returns-in_err-take_piece-2-clause-runs = pieces.check_pieces-returns-in_err-take_piece-2-clause-runs

pub check_pieces-returns-in_err-take_piece-2-clause-keeps : goal.check_pieces-returns-in_err-take_piece-2-clause-keeps
check_pieces-returns-in_err-take_piece-2-clause-keeps = pieces.check_pieces-returns-in_err-take_piece-2-clause-keeps

pub check_pieces-returns-in_err-take_piece-2-clause-reads : goal.check_pieces-returns-in_err-take_piece-2-clause-reads
check_pieces-returns-in_err-take_piece-2-clause-reads = pieces.check_pieces-returns-in_err-take_piece-2-clause-reads

pub check_pieces-returns-then-not-branch-clause-runs : goal.check_pieces-returns-then-not-branch-clause-runs
check_pieces-returns-then-not-branch-clause-runs = pieces.check_pieces-returns-then-not-branch-clause-runs

pub check_pieces-returns-then-not-branch-clause-keeps : goal.check_pieces-returns-then-not-branch-clause-keeps
check_pieces-returns-then-not-branch-clause-keeps = pieces.check_pieces-returns-then-not-branch-clause-keeps

pub check_pieces-returns-then-not-branch-clause-reads : goal.check_pieces-returns-then-not-branch-clause-reads
check_pieces-returns-then-not-branch-clause-reads = pieces.check_pieces-returns-then-not-branch-clause-reads

pub check_pieces-pieces-preserved : goal.check_pieces-pieces-preserved
check_pieces-pieces-preserved = pieces.check_pieces-pieces-preserved

use Rattle.bench_read.proofs.Feeding.{fed-command, fed-fault}
use Rattle.bench_read.proofs.feed_piece.Goals as goal

pub returns-in-Command : goal.returns-in-Command
returns-in-Command c = record {
  gives =
      fed-command c.pieces_law.ensures c.answers_law.ensures c.args.collector.now c.feed.new.self c.requires.live c.requires.waiting c.args.rest.now c.piece_size-size.result c.piece_size-size.ensures.within
      c.in-Command.ensures.0 c.in-Command.used c.in-Command.ensures.1;
}

pub returns-in-Fault : goal.returns-in-Fault
returns-in-Fault c = record {
  gives =
      fed-fault c.pieces_law.ensures c.answers_law.ensures c.args.collector.now c.feed.new.self c.requires.live c.requires.waiting c.args.rest.now c.piece_size-size.result c.piece_size-size.ensures.within
      c.in-Fault.ensures.0 c.in-Fault.name c.in-Fault.at c.in-Fault.ensures.1;
}

use Rattle.calls_directories.proofs.ListStarts.{streams_of_image}
use Rattle.calls_directories.proofs.StreamLists.{streams_in_turn, streams_outside}
use Rattle.pe_c.proofs.laws.walks.walks_give_the_streams.Goals as goal

pub returns : goal.returns
returns c = record {
  of_image = λ b image sections header root metadata items is. streams_of_image b image sections header root metadata items is.started is.read;
  streams = streams_in_turn;
  outside = streams_outside;
}

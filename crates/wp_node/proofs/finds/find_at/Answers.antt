use Rattle.wp_visit.proofs.Children.{reached_known}
use Rattle.wp_node.proofs.finds.find_at.Goals as goal

pub returns : goal.returns
returns c = record {
  known = reached_known c.args.visit.now.pairing c.args.place.now.batch _ c.requires.at.reached c.requires.as_many;
  long = c.length_of-length.ensures.is;
}

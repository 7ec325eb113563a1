use Rattle.wp_visit.proofs.Children.{reached_place}
use Rattle.wp_price.proofs.Searching.{put_together}
use Rattle.wp_price.proofs.search.SlackSearch.search_below.Goals as goal

pub returns : goal.returns
returns g c = put_together c.args.self.now c.args.place.now.batch c.in_ok-shares.shares.items c.args.best c.in_ok-found.found.items c.best_of.result
    (reached_place c.args.self.now.pairing c.args.place.now.batch c.requires.place.reached) c.requires.known c.in_ok-shares.ensures.all
    (rw c.as_slice.ensures.value at c.in_ok-found.ensures.count) (rw c.as_slice.ensures.value at c.in_ok-found.ensures.searched)
    (rw c.as_slice-2.ensures.value at c.best_of.ensures)

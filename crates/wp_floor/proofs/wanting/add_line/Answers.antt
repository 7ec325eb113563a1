use Rattle.std.proofs.Common.{◌≡◌, ◌∙◌, refl, sym, ap, subst, ◌+◌, ◌∷◌, [], Some, slice_get, arith}
use Rattle.std.proofs.lemmas.Option.{slice_get-get_or}
use Rattle.wp_allot.specs.declared.want.Want.{Want}
use Rattle.wp_floor.specs.WantLists.{AreSplit, HaveAdded, KeepArticles}
use Rattle.wp_floor.proofs.LineWants.{added_last, added_to, articles_last, articles_to, split_pushed}
use Rattle.wp_floor.proofs.FoundWants.{found_in, none_in}
use Rattle.wp_floor.proofs.wanting.add_line.Goals as goal

pub returns-in-Some-clause-added : goal.returns-in-Some-clause-added
returns-in-Some-clause-added c =
    let wants = c.args.wants.now.items in
    let at = c.args.start + c.in-Some.offset in
    let found = found_in c.deref.result.now wants c.args.start c.args.line.now.article c.in-Some.offset c.find_article.result c.deref.ensures.value
    c.requires.split.within c.find_article.ensures c.in-Some.is in
    let there : slice_get wants at ≡ Some c.index_mut.result.now =
    slice_get-get_or wants at c.index_mut.result.now found.within ∙ ap Some (sym c.index_mut.ensures.value) in
    added_to wants at c.args.place c.args.line.now c.index_mut.result.now c.from-quantity.result there
    (c.requires.split.from at c.index_mut.result.now there found.late)
    (ap (λ (want : Want). want.article) c.index_mut.ensures.value ∙ found.article_is c.index_mut.result.now) c.from-quantity.ensures

pub returns-in-Some-clause-articles : goal.returns-in-Some-clause-articles
returns-in-Some-clause-articles c =
    let found = found_in c.deref.result.now c.args.wants.now.items c.args.start c.args.line.now.article c.in-Some.offset c.find_article.result
    c.deref.ensures.value c.requires.split.within c.find_article.ensures c.in-Some.is in
    articles_to c.args.wants.now.items (c.args.start + c.in-Some.offset) c.args.line.now _
    (ap (λ (want : Want). want.article) c.index_mut.ensures.value ∙ found.article_is c.index_mut.result.now)

pub returns-in_ok-push-in-None-clause-split : goal.returns-in_ok-push-in-None-clause-split
returns-in_ok-push-in-None-clause-split c =
    let other = none_in c.deref.result.now c.args.wants.now.items c.args.start c.args.line.now.article c.find_article.result c.deref.ensures.value
    c.find_article.ensures c.in-None.is in
    subst (AreSplit c.args.start c.args.place) (sym c.in_ok-push-in-None.ensures.items)
    (split_pushed c.args.wants.now.items c.args.start c.args.place _ c.requires.split refl (omega (arith, c.from-quantity.ensures, c.requires.some)) other)

pub returns-in_ok-push-in-None-clause-added : goal.returns-in_ok-push-in-None-clause-added
returns-in_ok-push-in-None-clause-added c =
    subst (HaveAdded c.args.place (c.args.line.now ∷ []) c.args.wants.now.items) (sym c.in_ok-push-in-None.ensures.items)
    (added_last c.args.wants.now.items c.args.place c.args.line.now c.from-quantity.result c.from-quantity.ensures)

pub returns-in_ok-push-in-None-clause-articles : goal.returns-in_ok-push-in-None-clause-articles
returns-in_ok-push-in-None-clause-articles c =
    subst (KeepArticles (c.args.line.now ∷ []) c.args.wants.now.items) (sym c.in_ok-push-in-None.ensures.items)
    (articles_last c.args.wants.now.items c.args.line.now _ refl)

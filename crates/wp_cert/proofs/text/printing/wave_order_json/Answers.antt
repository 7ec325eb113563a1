use Rattle.wp_cert.proofs.text.printing.wave_order_json.Goals as goal

pub returns-clause-value : goal.returns-clause-value
returns-clause-value c = rw (c.layout.ensures, c.order.ensures.points) at c.order_json.ensures.value

pub returns-clause-slots : goal.returns-clause-slots
returns-clause-slots c = rw (c.order.ensures.layout, c.order.ensures.points) at c.order_json.ensures.slots

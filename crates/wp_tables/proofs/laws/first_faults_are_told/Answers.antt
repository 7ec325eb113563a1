use Rattle.std.proofs.Common.{[]}
use Rattle.wp_model.specs.TableLines.{empty_stock}
use Rattle.wp_tables.specs.DeskFile.{script_after}
use Rattle.wp_tables.specs.OrderFile.{orders_after}
use Rattle.wp_tables.specs.StockFile.{stock_after}
use Rattle.wp_tables.proofs.FirstFaults.{first_fault, numbered}
use Rattle.wp_tables.proofs.laws.first_faults_are_told.Goals as goal

pub returns : goal.returns
returns c = record {
  numbers = numbered;
  stock = λ layout. first_fault (stock_after layout) empty_stock;
  orders = λ articles. first_fault (orders_after articles) [];
  desks = first_fault script_after [];
}

-- A borrowed end as its clauses see it: the ring that it borrows, as it stands, and which borrow that is.
use Rattle.std.specs.Borrow.{GName}
use Rattle.usb_ring.specs.declared.rx.RxHandler.{RxHandler}
use Rattle.usb_ring.specs.declared.rx.RxTask.{RxTask}
use Rattle.usb_ring.specs.declared.tx.TxHandler.{TxHandler}
use Rattle.usb_ring.specs.declared.tx.TxTask.{TxTask}
use Rattle.usb_ring.specs.Ring.{Ring}

abbrev pub rx_handler_ring : RxHandler → Ring
rx_handler_ring borrowed = borrowed.ring.now

abbrev pub rx_handler_lender : RxHandler → GName
rx_handler_lender borrowed = borrowed.ring.ghost_name

abbrev pub rx_task_ring : RxTask → Ring
rx_task_ring borrowed = borrowed.ring.now

abbrev pub rx_task_lender : RxTask → GName
rx_task_lender borrowed = borrowed.ring.ghost_name

abbrev pub tx_handler_ring : TxHandler → Ring
tx_handler_ring borrowed = borrowed.ring.now

abbrev pub tx_handler_lender : TxHandler → GName
tx_handler_lender borrowed = borrowed.ring.ghost_name

abbrev pub tx_task_ring : TxTask → Ring
tx_task_ring borrowed = borrowed.ring.now

abbrev pub tx_task_lender : TxTask → GName
tx_task_lender borrowed = borrowed.ring.ghost_name

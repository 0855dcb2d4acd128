-- Laws of a conversion: texts written one after the other, the first line, the lines of steps, and what holds as the steps are made.
pub mod Appending
pub mod Lines
pub mod FirstLine
pub mod Longer
pub mod Loop
pub mod Copying

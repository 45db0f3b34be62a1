mod Bumping
mod Handing
mod Lining
mod Numbering
mod Placing
mod Reading
mod Whole

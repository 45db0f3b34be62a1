mod Initials
mod Covered
